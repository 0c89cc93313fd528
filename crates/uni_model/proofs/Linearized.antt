-- Every run is what an atomic object does, whichever eras end in it.
use Rattle.uni_model.proofs.Vocabulary.{AcceptsAll, All-contains, All-from_recursion, Anchor, AreAccepted, Atomic, Call, Contains, Contains-append_cases, Entry, Event, Invariant, Invoked, IsLinearizable, IsQuiescent, IsSound, List, Memory, Name, None, Of, Reshape, Sequential, Shows, Some, Step, Trim, WorldOf, [], acts_of, anchor_memory, ap, append-nil, append_assoc, arith, at_start, calls_of, cells_from, chain, era_calls, history_of, inl, inr, invocations_of, length, log, log_of_run, map, map-append, open_at, opened_world, refl, seq_of, state_after, subst, suc, sym, world_after, world_after_all, world_after_era, zero, ℕ, ◌++◌, ◌+◌, ◌<◌, ◌∙◌, ◌∷◌, ◌≡◌, ◌≤◌}
use Rattle.uni_model.proofs.Chains.{calls_at, linked_calls}
use Rattle.uni_model.proofs.Simulation.{calls_of-calls_at}
use Rattle.uni_model.proofs.Kept.{Invariant-opened_world, Invariant-world_after, idle_when_quiescent}
use Rattle.uni_model.proofs.LawProofs.{accepts, AcceptsAll-append}
use Rattle.uni_model.proofs.Behind.{behind, IsBehind, AcceptsAll-behind}
use Rattle.uni_model.proofs.Ended.{world_after_era-quiet}
use Rattle.uni_model.proofs.Eras.{first-world_after_step}
use Rattle.uni_model.proofs.Appended.{state_after-append}

module _ {S I R : Type 0} (start : S) (number : ℕ) where
  -- nothing is linked where the anchor stands alone
  none_linked : (m : Memory S I R) → m ≡ anchor_memory start number → (most : ℕ) → cells_from most m Anchor ≡ []
  none_linked m alone zero = refl
  none_linked m alone (suc most) = rw alone refl

  calls_of-anchor : (w : WorldOf S I R) → w.memory ≡ anchor_memory start number → calls_of w ≡ []
  calls_of-anchor w alone = calls_of-calls_at w ∙ ap (calls_at w.memory) (none_linked w.memory alone (era_calls w))

module _ {S I R : Type 0} (object : Sequential S I R) where
  -- the calls of an era are those of cells that were begun in it
  begun_of_call : (w : WorldOf S I R) (num : Name → ℕ) (last : ℕ) → IsSound object w num last → (c : Invoked I) → Contains (calls_of w) c
      → (w.first c.process ≤ c.nth) × (c.nth < w.begun c.process)
  begun_of_call w num last sound c there =
      let in_chain : Contains (calls_at w.memory (chain w)) c = subst (λ cs. Contains cs c) (calls_of-calls_at w) there in
      let linked : 1 ≤ num (Of c.process c.nth) = All-contains (λ (c : Invoked I). 1 ≤ num (Of c.process c.nth)) (calls_at w.memory (chain w)) c
      (All-from_recursion (λ (c : Invoked I). 1 ≤ num (Of c.process c.nth)) (calls_at w.memory (chain w)) (linked_calls w.memory num last sound.numbered (era_calls w) Anchor)) in_chain in
      let its = sound.calls.begun c.process c.nth (sound.calls.linked c.process c.nth linked) in
      (its.1, its.2)

  -- what an atomic object is after the end of an era: it starts after the calls that were placed
  abbrev pub restarted : Atomic S I → Atomic S I
  restarted a = record a { start = state_after object a.start (map (λ (c : Invoked I). c.inv) a.agreed); agreed = [] }

  module _ (start : S) where
    module _ (w : WorldOf S I R) (inv : Invariant object w) (quiet : IsQuiescent w) (n : ℕ) (prefix : List (Invoked I)) (a : Atomic S I) (shows : Shows w a) where
      idle : (p : ℕ) → w.call p ≡ None
      idle = idle_when_quiescent object w inv.0 inv.1 inv.2 quiet

      abbrev pub ended : WorldOf S I R
      ended = let s = state_after object a.start (invocations_of w) in record w { n = n; first = w.begun; memory = anchor_memory s (seq_of w.memory Anchor + length (log w)) }

      ended_is : world_after_era w n ≡ ended
      ended_is = world_after_era-quiet object w inv.0 inv.1 inv.2 quiet a.start shows.start n

      -- the world shows the object that has started anew
      Shows-ended : Shows (world_after_era w n) (restarted a)
      Shows-ended = subst (λ v. Shows v (restarted a)) (sym ended_is) (record {
        start = ap (λ (cs : List (Invoked I)). Some (state_after object a.start (map (λ (c : Invoked I). c.inv) cs), None)) shows.agreed;
        agreed = calls_of-anchor (state_after object a.start (invocations_of w)) (seq_of w.memory Anchor + length (log w)) ended refl;
        open_call = λ p. ap (open_at ended.memory) (idle p) ∙ sym (ap (open_at w.memory) (idle p)) ∙ shows.open_call p;
        next_nth = shows.next_nth;
      })

      -- and that object goes on behind the calls of the era
      IsBehind-ended : IsBehind object start prefix w.first a → IsBehind object start (prefix ++ a.agreed) (world_after_era w n).first (restarted a)
      IsBehind-ended h = subst (λ v. IsBehind object start (prefix ++ a.agreed) v.first (restarted a)) (sym ended_is) (record {
        state =
            ap (state_after object start) (map-append (λ (c : Invoked I). c.inv) prefix a.agreed)
            ∙ state_after-append object start (map (λ (c : Invoked I). c.inv) prefix) (map (λ (c : Invoked I). c.inv) a.agreed)
            ∙ ap (λ s. state_after object s (map (λ (c : Invoked I). c.inv) a.agreed)) h.state;
        old = λ c there. elim (Contains-append_cases prefix a.agreed c there) [
          | inl before ↦ (let old : c.nth < w.first c.process = h.old c before in let more : w.first c.process ≤ w.begun c.process = inv.2.calls.first c.process in omega arith)
          | inr own ↦ (begun_of_call w inv.0 inv.1 inv.2 c (subst (λ cs. Contains cs c) (sym shows.agreed) own)).1
        ];
        open_call = λ p o e. absurd (let none : open_at w.memory (w.call p) ≡ None = ap (open_at w.memory) (idle p) in let f = shows.open_call p in cc);
        next_nth = λ p. let e : w.begun p ≡ a.next_nth p = shows.next_nth p in omega arith;
      })

      behind-ended : behind object start (prefix ++ a.agreed) (restarted a) ≡ behind object start prefix a
      behind-ended = ap (λ cs. let x : Atomic S I = record a { start = start; agreed = cs } in x) (append-nil (prefix ++ a.agreed))

    -- the run shows the object behind the calls of the eras that ended before it
    abbrev pub Outcome : WorldOf S I R → List (Event I) → List (Invoked I) → Atomic S I → Type 0
    Outcome w es prefix from = let last = world_after_all object w es in
        (b : Atomic S I) × AcceptsAll object from (history_of object w es) b × (b.start ≡ start)
        × (prefix ++ map (λ (e : Entry I R). e.call) (log_of_run object w es) ≡ b.agreed)
        × ((p : ℕ) → open_at last.memory (last.call p) ≡ b.open_call p) × ((p : ℕ) → last.begun p ≡ b.next_nth p)

    era_ended : (w : WorldOf S I R) (n : ℕ) (es : List (Event I)) (prefix : List (Invoked I)) (a : Atomic S I) → Shows w a
        → Outcome (world_after_era w n) es (prefix ++ a.agreed) (behind object start (prefix ++ a.agreed) (restarted a))
        → (behind object start (prefix ++ a.agreed) (restarted a) ≡ behind object start prefix a)
        → (b : Atomic S I) × AcceptsAll object (behind object start prefix a) (history_of object (world_after_era w n) es) b × (b.start ≡ start)
        × (prefix ++ map (λ (e : Entry I R). e.call) (log w ++ log_of_run object (world_after_era w n) es) ≡ b.agreed)
        × ((p : ℕ) → open_at (world_after_all object (world_after_era w n) es).memory ((world_after_all object (world_after_era w n) es).call p) ≡ b.open_call p)
        × ((p : ℕ) → (world_after_all object (world_after_era w n) es).begun p ≡ b.next_nth p)
    era_ended w n es prefix a shows rest same = (
      rest.0,
      subst (λ x. AcceptsAll object x (history_of object (world_after_era w n) es) rest.0) same rest.1,
      rest.2,
      ap (λ cs. prefix ++ cs) (map-append (λ (e : Entry I R). e.call) (log w) (log_of_run object (world_after_era w n) es))
          ∙ ap (λ cs. prefix ++ (cs ++ map (λ (e : Entry I R). e.call) (log_of_run object (world_after_era w n) es))) shows.agreed
          ∙ sym (append_assoc prefix a.agreed (map (λ (e : Entry I R). e.call) (log_of_run object (world_after_era w n) es))) ∙ rest.3,
      rest.4,
      rest.5,
    )

    run_accepted : (w : WorldOf S I R) (es : List (Event I)) → Invariant object w → AreAccepted object w es → (prefix : List (Invoked I)) (a : Atomic S I) → Shows w a
        → IsBehind object start prefix w.first a → Outcome w es prefix (behind object start prefix a)
    run_accepted w [] inv ok prefix a shows h = (behind object start prefix a, refl, refl, ap (λ cs. prefix ++ cs) shows.agreed, shows.open_call, shows.next_nth)
    run_accepted w (Call p i ∷ es) inv ok prefix a shows h =
        let first = accepts object w (Call p i) inv ok.0 tt a shows in
        let moved = AcceptsAll-behind object start prefix w.first a (acts_of object w (Call p i)) first.0 h first.2 in
        let rest = run_accepted (world_after object w (Call p i)) es (Invariant-world_after object w (Call p i) ok.0 inv) ok.1 prefix first.0 first.1 moved.0 in
        (rest.0, AcceptsAll-append object _ (behind object start prefix first.0) rest.0 (acts_of object w (Call p i)) _ moved.1 rest.1, rest.2, rest.3, rest.4, rest.5)
    run_accepted w (Step p ∷ es) inv ok prefix a shows h =
        let first = accepts object w (Step p) inv ok.0 tt a shows in
        let moved = AcceptsAll-behind object start prefix w.first a (acts_of object w (Step p)) first.0 h first.2 in
        let rest = run_accepted (world_after object w (Step p)) es (Invariant-world_after object w (Step p) ok.0 inv) ok.1 prefix first.0 first.1
        (subst (λ f. IsBehind object start prefix f first.0) (sym (first-world_after_step object w p (w.call p))) moved.0) in
        (rest.0, AcceptsAll-append object _ (behind object start prefix first.0) rest.0 (acts_of object w (Step p)) _ moved.1 rest.1, rest.2, rest.3, rest.4, rest.5)
    run_accepted w (Trim ∷ es) inv ok prefix a shows h =
        era_ended w w.n es prefix a shows
        (run_accepted (world_after_era w w.n) es (Invariant-world_after object w Trim ok.0 inv) ok.1 (prefix ++ a.agreed) (restarted a)
        (Shows-ended w inv ok.0 w.n prefix a shows) (IsBehind-ended w inv ok.0 w.n prefix a shows h)) (behind-ended w inv ok.0 w.n prefix a shows)
    run_accepted w (Reshape n ∷ es) inv ok prefix a shows h =
        era_ended w n es prefix a shows
        (run_accepted (world_after_era w n) es (Invariant-world_after object w (Reshape n) ok.0 inv) ok.1 (prefix ++ a.agreed) (restarted a)
        (Shows-ended w inv ok.0.0 n prefix a shows) (IsBehind-ended w inv ok.0.0 n prefix a shows h)) (behind-ended w inv ok.0.0 n prefix a shows)

  pub IsLinearizable-holds : (n : ℕ) (start : S) (number : ℕ) (events : List (Event I)) → IsLinearizable object n start number events
  IsLinearizable-holds n start number events positive ok =
      let shown = run_accepted start (opened_world n start number) events (Invariant-opened_world object n start number positive) ok [] (at_start start)
      (record { start = refl; agreed = calls_of-anchor start number (opened_world n start number) refl; open_call = λ p. refl; next_nth = λ p. refl })
      (record { state = refl; old = λ c there. absurd (none c there); open_call = λ p o e. absurd (let f : None ≡ Some o = e in cc); next_nth = λ p. omega arith }) in
      (shown.0, record { start = shown.2; agreed = shown.3; open_call = shown.4; next_nth = shown.5 }, shown.1) where
        none : (c : Invoked I) → ¬ (Contains [] c)
        none c there = let less : there.0 < 0 = there.1 in omega arith
