-- Own steps are counted by the stage and the turns.
use Rattle.uni_model.proofs.Vocabulary.{Announce, AreAccepted, Call, Content, CountsSteps, DecideAfter, DecideNew, Event, Finish, HasTurns, Invariant, IsAccepted, IsCounted, IsQuiescent, List, Memory, Name, None, Option, Pending, ReadAnnounce, ReadHelpSeq, Reshape, ScanHead, ScanSeq, Sequential, Some, Stage, Stands, Step, Test, Trim, WorldOf, WriteBefore, WriteHead, WriteScan, WriteSeq, [], anchor_memory, ap, arith, call_after, effect_of, inl, inr, last_cell, new_of, next_in_scan, number_in, opened_world, option_map_or, place_of, refl, seq_of, steps_at, subst, sym, turn_of, world_after, world_after_all, world_after_call, world_after_era, world_after_step, ℕ, ◌+◌, ◌<◌, ◌∙◌, ◌∷◌, ◌≡◌}
use Rattle.uni_model.proofs.Written.{number_cases, lt_cases}
use Rattle.uni_model.proofs.Kept.{idle_when_quiescent, Invariant-world_after}

module _ {S I R : Type 0} (object : Sequential S I R) (m : Memory S I R) (num : Name → ℕ) (n p : ℕ) (mine : Name) (v : Content S I R) (seen : Memory S I R) (begun among u t : ℕ) (same : among ≡ n) where
  -- each kind of step
  pub IsCounted-effect : (stage : Stage) → Stands m num n p mine stage → HasTurns stage t → u ≡ steps_at n stage t
      → IsCounted n (call_after mine (effect_of object n mine stage v seen).stage) begun among (u + 1) (t + turn_of stage v)
  IsCounted-effect Announce h turns e = (same, omega arith, omega arith)
  IsCounted-effect (ScanHead q best s) h turns e = (same, omega arith, omega arith)
  IsCounted-effect (ScanSeq q best s x) h turns e = elim (lt_cases s (number_in v)) [
    | inl better ↦ rw better.1 (goes_on x (number_in v))
    | inr worse ↦ rw worse.1 (goes_on best s)
  ] where
    goes_on : (found : Name) (top : ℕ) → IsCounted n (call_after mine (Some (next_in_scan n q found top))) begun among (u + 1) (t + 0)
    goes_on found top =
        let below : q < n = h.0 in
        elim (lt_cases (q + 1) n) [
          | inl more ↦ rw more.1 (same, omega arith, omega arith)
          | inr done ↦ rw done.1 (same, omega arith, omega arith)
        ]
  IsCounted-effect (WriteScan best s) h turns e = (same, tt, omega arith)
  IsCounted-effect (Test c s) h turns e = elim (number_cases (number_in v) 0) [
    | inl none ↦ rw none.1 (same, omega arith, omega arith)
    | inr some ↦ rw some.1 (same, tt, omega arith)
  ]
  IsCounted-effect (ReadAnnounce c s) h turns e = (same, omega arith, omega arith)
  IsCounted-effect (ReadHelpSeq c s help) h turns e = (same, omega arith, omega arith)
  IsCounted-effect (DecideAfter c s prefer) h turns e = (same, omega arith, omega arith)
  IsCounted-effect (DecideNew c s d) h turns e = (same, omega arith, omega arith)
  IsCounted-effect (WriteBefore c s d) h turns e = (same, omega arith, omega arith)
  IsCounted-effect (WriteSeq c s d) h turns e = (same, omega arith, omega arith)
  IsCounted-effect (WriteHead c s d) h turns e = (same, tt, omega arith)
  IsCounted-effect (Finish s k) h turns e = λ some. omega arith

pub IsCounted-pending : {S I R : Type 0} (w : WorldOf S I R) → CountsSteps w → (p : ℕ) (c : Pending) → w.call p ≡ Some c → IsCounted w.n (Some c) (w.begun p) (w.among p) (w.steps p) (w.turns p)
IsCounted-pending w counts p c is = subst (λ o. IsCounted w.n o (w.begun p) (w.among p) (w.steps p) (w.turns p)) is (counts p)

module _ {S I R : Type 0} (object : Sequential S I R) where
  CountsSteps-begun : (w : WorldOf S I R) (p : ℕ) (i : I) → CountsSteps w → CountsSteps (world_after_call w p i)
  CountsSteps-begun w p i counts q = elim (number_cases q p) [
    | inl here ↦ rw here.1 (refl, refl, refl)
    | inr other ↦ rw other.1 (counts q)
  ]

  pub CountsSteps-world_after_step : (w : WorldOf S I R) (num : Name → ℕ) (p : ℕ) (c : Pending) → w.call p ≡ Some c → Stands w.memory num w.n p c.mine c.stage
      → CountsSteps w → CountsSteps (world_after_step object w p (Some c))
  CountsSteps-world_after_step w num p c is stands counts q =
      let own = IsCounted-pending w counts p c is in
      elim (number_cases q p) [
        | inl here ↦ rw here.1 (IsCounted-effect object w.memory num w.n p c.mine (w.memory (place_of w.n p c.mine c.stage)) w.memory
            (w.begun q) (w.among q) (w.steps p) (w.turns p) (ap w.among here.0 ∙ own.0) c.stage stands own.1 own.2)
        | inr other ↦ rw other.1 (counts q)
      ]

  -- where no call is pending, the count of processes doesn't matter
  CountsSteps-world_after_era : (w : WorldOf S I R) → Invariant object w → (n : ℕ) → IsQuiescent w → CountsSteps w → CountsSteps (world_after_era w n)
  CountsSteps-world_after_era w inv n quiet counts = by_new (new_of w.memory (last_cell w)) where
    by_new : (o : Option (S × Option R)) → CountsSteps (option_map_or (λ new. record w { n = n; first = w.begun; memory = anchor_memory new.0 (seq_of w.memory (last_cell w)) }) o w)
    by_new None = counts
    by_new (Some new) = λ p. subst (λ o. IsCounted n o (w.begun p) (w.among p) (w.steps p) (w.turns p)) (sym (idle p))
        (subst (λ o. IsCounted w.n o (w.begun p) (w.among p) (w.steps p) (w.turns p)) (idle p) (counts p)) where
          idle : (p : ℕ) → w.call p ≡ None
          idle = idle_when_quiescent object w inv.0 inv.1 inv.2 quiet

  pub CountsSteps-world_after : (w : WorldOf S I R) (e : Event I) → IsAccepted w e → Invariant object w → CountsSteps w → CountsSteps (world_after object w e)
  CountsSteps-world_after w (Call p i) ok inv counts = CountsSteps-begun w p i counts
  CountsSteps-world_after w (Step p) ok inv counts = by_call (w.call p) refl where
    by_call : (o : Option Pending) → w.call p ≡ o → CountsSteps (world_after_step object w p o)
    by_call None is = counts
    by_call (Some c) is = CountsSteps-world_after_step w inv.0 p c is (inv.2.stands p c is) counts
  CountsSteps-world_after w Trim ok inv counts = CountsSteps-world_after_era w inv w.n ok counts
  CountsSteps-world_after w (Reshape n) ok inv counts = CountsSteps-world_after_era w inv n ok.0 counts

  pub CountsSteps-world_after_all : (w : WorldOf S I R) (es : List (Event I)) → AreAccepted object w es → Invariant object w → CountsSteps w → CountsSteps (world_after_all object w es)
  CountsSteps-world_after_all w [] ok inv counts = counts
  CountsSteps-world_after_all w (e ∷ es) ok inv counts =
      CountsSteps-world_after_all (world_after object w e) es ok.1 (Invariant-world_after object w e ok.0 inv) (CountsSteps-world_after w e ok.0 inv counts)

  -- no process has called yet
  pub CountsSteps-opened_world : (n : ℕ) (start : S) (number : ℕ) → CountsSteps (opened_world {S = S} {I = I} {R = R} n start number)
  CountsSteps-opened_world n start number p begun = absurd (omega arith)
