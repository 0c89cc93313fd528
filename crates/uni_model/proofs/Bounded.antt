-- Every event that is accepted goes on helping each pending call; so each call ends within n + 1 turns.
use Rattle.uni_model.proofs.Vocabulary.{Announce, AreAccepted, Call, CountsSteps, DecideAfter, DecideNew, Event, Finish, HelpingInvariant, Helps, IsAccepted, IsBounded, IsCounted, IsQuiescent, IsWithinBound, List, Memory, Name, None, Option, Pending, ReadAnnounce, ReadHelpSeq, Reshape, ScanHead, ScanSeq, Sequential, Some, Stage, Stands, Step, Test, Trim, WorldOf, WriteBefore, WriteHead, WriteScan, WriteSeq, [], anchor_memory, arith, effect_of, head_of, head_seq, inl, inr, last_cell, memory_with, new_of, opened_world, option_map_or, place_of, refl, seq_of, set_at, steps_at, subst, sym, turn_of, world_after, world_after_all, world_after_call, world_after_era, world_after_step, ℕ, ◌*◌, ◌+◌, ◌<◌, ◌∷◌, ◌≡◌, ◌≤◌}
use Rattle.uni_model.proofs.Moves.{IsSound-moved}
use Rattle.uni_model.proofs.Steps.{leads}
use Rattle.uni_model.proofs.Anchored.{alone, IsSound-anchor_memory}
use Rattle.uni_model.proofs.Begun.{IsSound-begun}
use Rattle.uni_model.proofs.Kept.{idle_when_quiescent, last_cell_threaded}
use Rattle.uni_model.proofs.Counted.{IsCounted-pending, CountsSteps-world_after}
use Rattle.uni_model.proofs.Turns.{turns-le}
use Rattle.uni_model.proofs.Advanced.{advances, head_rises}
use Rattle.uni_model.proofs.HelpedStep.{Helps-moved}
use Rattle.uni_model.proofs.HelpedCall.{Helps-begun}

-- with no call pending nobody waits for help
pub Helps-anchor_memory : {S I R : Type 0} (s : S) (number n : ℕ) (call : ℕ → Option Pending) (begun among steps turns : ℕ → ℕ) → ((p : ℕ) → call p ≡ None) → ((p : ℕ) → turns p ≤ among p + 1)
    → Helps {S = S} {I = I} {R = R} (record { n = n; memory = anchor_memory s number; call = call; begun = begun; first = begun; among = among; steps = steps; turns = turns }) (alone number) number
Helps-anchor_memory s number n call begun among steps turns idle few = record {
  each = λ p c e. absurd (let f = idle p in cc);
  fair = λ o d e. absurd (let f = idle o in cc);
  heads = λ k from below. absurd (omega arith);
  returned = λ p e. few p;
}

module _ {S I R : Type 0} (object : Sequential S I R) where
  abbrev pub HelpingInvariant-world_after_step : (w : WorldOf S I R) (p : ℕ) (c : Pending) → w.call p ≡ Some c → CountsSteps w → HelpingInvariant object w → HelpingInvariant object (world_after_step object w p (Some c))
  HelpingInvariant-world_after_step w p c is counts inv =
      let moved = leads object w inv.0 inv.1 inv.2 p c.mine c.stage is c.stage (inv.2.stands p c is) in
      let own = IsCounted-pending w counts p c is in
      let place = place_of w.n p c.mine c.stage in
      let e = effect_of object w.n c.mine c.stage (w.memory place) w.memory in
      let inside : p < w.n = inv.2.calls.process p c is in
      let threaded : 1 ≤ head_seq w.memory p = inv.2.calls.head p inside in
      let helped = inv.3.each p c is in (
        moved.0,
        moved.1,
        IsSound-moved object w inv.0 inv.1 inv.2 p c.mine c.stage is (memory_with w.memory place e.content) moved.0 moved.1 e.stage moved.3
            (set_at w.steps p (w.steps p + 1)) (set_at w.turns p (w.turns p + turn_of c.stage (w.memory place))),
        Helps-moved object w inv.0 inv.1 inv.2 inv.3 p c.mine c.stage is (memory_with w.memory place e.content) moved.0 moved.1 e.stage moved.3 moved.2
            (head_rises object w inv.0 inv.1 inv.2 inv.3 p c.mine threaded c.stage (inv.2.stands p c is) helped.own_head moved.3.grows)
            (w.turns p + turn_of c.stage (w.memory place))
            (advances object w inv.0 inv.1 inv.2 inv.3 p c.mine inside threaded moved.0 moved.3.numbers c.stage is (inv.2.stands p c is) helped own.1)
            (set_at w.steps p (w.steps p + 1)) own.0,
      )

  -- every process's latest call has taken at most n + 1 turns, of the n processes among which it ran
  pub turns_bounded : (w : WorldOf S I R) → CountsSteps w → HelpingInvariant object w → (p : ℕ) → w.turns p ≤ w.among p + 1
  turns_bounded w counts inv p = by_call (w.call p) refl where
    by_call : (o : Option Pending) → w.call p ≡ o → w.turns p ≤ w.among p + 1
    by_call None is = inv.3.returned p is
    by_call (Some c) is =
        let own = IsCounted-pending w counts p c is in
        let inside : p < w.n = inv.2.calls.process p c is in
        subst (λ n. w.turns p ≤ n + 1) (sym own.0)
        (turns-le w.memory inv.0 inv.1 inv.2.numbered w.n p inside (inv.2.calls.head p inside) c.mine (w.turns p) c.stage (inv.2.stands p c is) own.1 (inv.3.each p c is))

  -- the list is replaced by one anchor with the state s
  abbrev pub HelpingInvariant-anchor_memory : (w : WorldOf S I R) (n : ℕ) (s : S) → IsQuiescent w → CountsSteps w → HelpingInvariant object w
      → HelpingInvariant object (record w { n = n; first = w.begun; memory = anchor_memory s (seq_of w.memory (last_cell w)) })
  HelpingInvariant-anchor_memory w n s quiet counts inv =
      let idle : (p : ℕ) → w.call p ≡ None = idle_when_quiescent object w inv.0 inv.1 inv.2 quiet in (
        alone (seq_of w.memory (last_cell w)),
        seq_of w.memory (last_cell w),
        IsSound-anchor_memory object s (seq_of w.memory (last_cell w)) (last_cell_threaded object w inv.0 inv.1 inv.2 quiet) n w.call w.begun w.among w.steps w.turns idle,
        Helps-anchor_memory s (seq_of w.memory (last_cell w)) n w.call w.begun w.among w.steps w.turns idle (turns_bounded w counts inv),
      )

  HelpingInvariant-world_after_era : (w : WorldOf S I R) (n : ℕ) → IsQuiescent w → CountsSteps w → HelpingInvariant object w → HelpingInvariant object (world_after_era w n)
  HelpingInvariant-world_after_era w n quiet counts inv = by_new (new_of w.memory (last_cell w)) where
    by_new : (o : Option (S × Option R)) → HelpingInvariant object (option_map_or (λ new. record w { n = n; first = w.begun; memory = anchor_memory new.0 (seq_of w.memory (last_cell w)) }) o w)
    by_new None = inv
    by_new (Some new) = HelpingInvariant-anchor_memory w n new.0 quiet counts inv

  abbrev pub HelpingInvariant-begun : (w : WorldOf S I R) (p : ℕ) (i : I) → p < w.n → w.call p ≡ None → HelpingInvariant object w → HelpingInvariant object (world_after_call w p i)
  HelpingInvariant-begun w p i inside idle inv =
      (inv.0, inv.1, IsSound-begun object w inv.0 inv.1 inv.2 p i inside idle, Helps-begun object w inv.0 inv.1 inv.2 inv.3 p i inside idle)

  pub HelpingInvariant-world_after : (w : WorldOf S I R) (e : Event I) → IsAccepted w e → CountsSteps w → HelpingInvariant object w → HelpingInvariant object (world_after object w e)
  HelpingInvariant-world_after w (Call p i) ok counts inv = HelpingInvariant-begun w p i ok.0 ok.1 inv
  HelpingInvariant-world_after w (Step p) ok counts inv = by_call (w.call p) refl where
    by_call : (o : Option Pending) → w.call p ≡ o → HelpingInvariant object (world_after_step object w p o)
    by_call None is = inv
    by_call (Some c) is = HelpingInvariant-world_after_step w p c is counts inv
  HelpingInvariant-world_after w Trim ok counts inv = HelpingInvariant-world_after_era w w.n ok counts inv
  HelpingInvariant-world_after w (Reshape n) ok counts inv = HelpingInvariant-world_after_era w n ok.0 counts inv

  pub HelpingInvariant-world_after_all : (w : WorldOf S I R) (es : List (Event I)) → AreAccepted object w es → CountsSteps w → HelpingInvariant object w → HelpingInvariant object (world_after_all object w es)
  HelpingInvariant-world_after_all w [] ok counts inv = inv
  HelpingInvariant-world_after_all w (e ∷ es) ok counts inv =
      HelpingInvariant-world_after_all (world_after object w e) es ok.1 (CountsSteps-world_after object w e ok.0 (inv.0, inv.1, inv.2) counts) (HelpingInvariant-world_after w e ok.0 counts inv)

  pub HelpingInvariant-opened_world : (n : ℕ) (s : S) (number : ℕ) → 1 ≤ number → HelpingInvariant object (opened_world {S = S} {I = I} {R = R} n s number)
  HelpingInvariant-opened_world n s number positive = (
    alone number,
    number,
    IsSound-anchor_memory object s number positive n (λ p. None) (λ p. 0) (λ p. 0) (λ p. 0) (λ p. 0) (λ p. refl),
    Helps-anchor_memory s number n (λ p. None) (λ p. 0) (λ p. 0) (λ p. 0) (λ p. 0) (λ p. refl) (λ p. omega arith),
  )

  -- the own steps of a pending call with at most n + 1 turns
  steps_at-lt : (m : Memory S I R) (num : Name → ℕ) (n p : ℕ) (mine : Name) (stage : Stage) (turns : ℕ) → Stands m num n p mine stage → turns ≤ n + 1 → steps_at n stage turns < 10 * n + 12
  steps_at-lt m num n p mine Announce turns h few = omega arith
  steps_at-lt m num n p mine (ScanHead q best s) turns h few = let below : q < n = h.0 in omega arith
  steps_at-lt m num n p mine (ScanSeq q best s x) turns h few = let below : q < n = h.0 in omega arith
  steps_at-lt m num n p mine (WriteScan best s) turns h few = omega arith
  steps_at-lt m num n p mine (Test c s) turns h few = omega arith
  steps_at-lt m num n p mine (ReadAnnounce c s) turns h few = omega arith
  steps_at-lt m num n p mine (ReadHelpSeq c s help) turns h few = omega arith
  steps_at-lt m num n p mine (DecideAfter c s prefer) turns h few = omega arith
  steps_at-lt m num n p mine (DecideNew c s d) turns h few = omega arith
  steps_at-lt m num n p mine (WriteBefore c s d) turns h few = omega arith
  steps_at-lt m num n p mine (WriteSeq c s d) turns h few = omega arith
  steps_at-lt m num n p mine (WriteHead c s d) turns h few = omega arith
  steps_at-lt m num n p mine (Finish s k) turns h few = omega arith

  pub IsBounded-held : (w : WorldOf S I R) → CountsSteps w → HelpingInvariant object w → IsBounded w
  IsBounded-held w counts inv p = by_call (w.call p) refl (counts p) where
    by_call : (o : Option Pending) → w.call p ≡ o → IsCounted w.n o (w.begun p) (w.among p) (w.steps p) (w.turns p) → IsWithinBound w.n o (w.begun p) (w.among p) (w.steps p) (w.turns p)
    by_call None is counted = (turns_bounded w counts inv p, counted)
    by_call (Some c) is counted =
        let few : w.turns p ≤ w.n + 1 = subst (λ n. w.turns p ≤ n + 1) counted.0 (turns_bounded w counts inv p) in
        let less : steps_at w.n c.stage (w.turns p) < 10 * w.n + 12 = steps_at-lt w.memory inv.0 w.n p c.mine c.stage (w.turns p) (inv.2.stands p c is) few in
        (counted.0, few, subst (λ u. u < 10 * w.n + 12) (sym counted.2) less)

  -- after n + 1 turns a call's last step finds that its own cell is its head
  pub at_its_cell : (w : WorldOf S I R) → HelpingInvariant object w → (p : ℕ) (mine : Name) (s t : ℕ)
      → w.call p ≡ Some (record { mine = mine; stage = Finish s t }) → w.turns p ≡ w.n + 1 → (head_of w.memory p ≡ mine) × (t ≤ s)
  at_its_cell w inv p mine s t is turns =
      let helped = inv.3.each p (record { mine = mine; stage = Finish s t }) is in
      let linked = helped.linked in
      let stands = inv.2.stands p (record { mine = mine; stage = Finish s t }) is in
      let found : linked.0 + w.turns p ≤ s = linked.1 in
      let near : inv.0 mine ≤ linked.0 + w.n + 1 = linked.2 in
      let threaded : 1 ≤ t = stands.1 in
      let number : seq_of w.memory mine ≡ t = stands.2 in
      let own : seq_of w.memory mine ≡ inv.0 mine = inv.2.numbered.seq mine (omega arith) in
      let past : t ≤ s = omega arith in
      let ahead : s ≤ inv.0 mine = elim helped.ahead [
        | inl none ↦ absurd (let none : w.turns p ≡ 0 = none in omega arith)
        | inr own_first ↦ elim own_first [ inl apart ↦ absurd (let apart : inv.0 mine ≡ 0 = apart in omega arith) | inr before ↦ before ]
      ] in
      let at : head_seq w.memory p ≡ s = stands.0 in
      let head : head_seq w.memory p ≡ inv.0 (head_of w.memory p) = inv.2.numbered.seq (head_of w.memory p) (omega arith) in
      (inv.2.numbered.one_each (head_of w.memory p) mine (omega arith) (let same : inv.0 (head_of w.memory p) ≡ inv.0 mine = omega arith in same), past)
