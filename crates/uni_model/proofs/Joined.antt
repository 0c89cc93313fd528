-- The joined log of a run: what holds of the log of each era holds of all of them, one after another.
use Rattle.uni_model.proofs.Vocabulary.{Anchor, AreAccepted, Entry, EraLeaves, EraOfRunLeaves, Event, Invariant, Invoked, IsLegal, IsPrefixOf, IsSome, JoinedLogGrows, JoinsLegalLogs, List, None, Sequential, Some, WorldOf, [], anchor_memory, ap, arith, inl, inr, invocations_of, length, length-append, log, log_of_run, logged_call, map, map-append, new_of, opened_world, refl, seq_of, slice_get, state_after, subst, suc, sym, take, world_after, world_after_all, zero, ℕ, ◌++◌, ◌+◌, ◌<◌, ◌∙◌, ◌∷◌, ◌≡◌, ◌≤◌, ◌⊎◌}
use Rattle.seq_object.specs.History.{Call}
use Rattle.uni_model.proofs.Kept.{Invariant-opened_world, Invariant-world_after, Invariant-world_after_all}
use Rattle.uni_model.proofs.LawProofs.{AreAccepted-take}
use Rattle.uni_model.proofs.OneLists.{IsLegalLog-sound}
use Rattle.uni_model.proofs.Growing.{log-world_after, IsPrefixOf-same, IsPrefixOf-then}
use Rattle.uni_model.proofs.Appended.{slice_get-append_cases, state_after-append, IsLegal-append}
use Rattle.uni_model.proofs.Prefixes.{IsPrefixOf-append, IsPrefixOf-behind}
use Rattle.uni_model.proofs.Ended.{world_after_era-quiet}
use Rattle.uni_model.proofs.Eras.{GoesOn, EndsEra, event_cases, entry_at, begun_of_entry, place_of_entry, answered_when_quiescent}

module _ {I R : Type 0} where
  -- what the calls of entries ask for
  pub map-logged_call : (es : List (Entry I R)) → map (λ (c : Call I R). c.inv) (map logged_call es) ≡ map (λ (e : Entry I R). e.call.inv) es
  map-logged_call [] = refl
  map-logged_call (e ∷ es) = ap (λ is. e.call.inv ∷ is) (map-logged_call es)

  pub map-calls : (es : List (Entry I R)) → map (λ (c : Invoked I). c.inv) (map (λ (e : Entry I R). e.call) es) ≡ map (λ (e : Entry I R). e.call.inv) es
  map-calls [] = refl
  map-calls (e ∷ es) = ap (λ is. e.call.inv ∷ is) (map-calls es)

module _ {S I R : Type 0} (object : Sequential S I R) where
  -- accepted events of a world with the invariant, whose anchor has this state
  pub record IsRun (w : WorldOf S I R) (es : List (Event I)) (start : S) : Type 0 where
    pub inv : Invariant object w
    pub anchor : new_of w.memory Anchor ≡ Some (start, None)
    pub accepted : AreAccepted object w es

  pub IsRun-opened_world : (n : ℕ) (start : S) (number : ℕ) (es : List (Event I)) → 1 ≤ number → AreAccepted object (opened_world n start number) es → IsRun (opened_world n start number) es start
  IsRun-opened_world n start number es positive ok = record { inv = Invariant-opened_world object n start number positive; anchor = refl; accepted = ok }

  pub IsRun-take : (j : ℕ) (w : WorldOf S I R) (es : List (Event I)) (start : S) → IsRun w es start → IsRun w (take j es) start
  IsRun-take j w es start run = record { inv = run.inv; anchor = run.anchor; accepted = AreAccepted-take object j w es run.accepted }

  -- the first event, and the run after it
  pub run_cases : (w : WorldOf S I R) (e : Event I) (es : List (Event I)) (start : S) → IsRun w (e ∷ es) start
      → (GoesOn object w e start × IsRun (world_after object w e) es start) ⊎ (EndsEra object w e start × IsRun (world_after object w e) es (state_after object start (invocations_of w)))
  run_cases w e es start run = elim (event_cases object w run.inv start run.anchor e run.accepted.0) [
    | inl on ↦ inl (on, record { inv = Invariant-world_after object w e run.accepted.0 run.inv; anchor = on.anchor; accepted = run.accepted.1 })
    | inr end ↦ inr (end, record { inv = Invariant-world_after object w e run.accepted.0 run.inv; anchor = end.anchor; accepted = run.accepted.1 })
  ]

  legal_run : (w : WorldOf S I R) (es : List (Event I)) (start : S) → IsRun w es start → IsLegal object start (map logged_call (log_of_run object w es))
  legal_run w [] start run = (IsLegalLog-sound object w run.inv.0 run.inv.1 run.inv.2 start run.anchor).legal
  legal_run w (e ∷ es) start run = elim (run_cases w e es start run) [
    | inl on ↦ rw (on.0.joined es) (legal_run (world_after object w e) es start on.1)
    | inr end ↦
        let rest = legal_run (world_after object w e) es (state_after object start (invocations_of w)) end.1 in
        let same : state_after object start (invocations_of w) ≡ state_after object start (map (λ (c : Call I R). c.inv) (map logged_call (log w)))
        = ap (state_after object start) (map-calls (log w) ∙ sym (map-logged_call (log w))) in
        rw (end.0.joined es, map-append logged_call (log w) (log_of_run object (world_after object w e) es)) (
        IsLegal-append object start (map logged_call (log w)) (map logged_call (log_of_run object (world_after object w e) es))
        (IsLegalLog-sound object w run.inv.0 run.inv.1 run.inv.2 start run.anchor).legal
        (subst (λ s. IsLegal object s (map logged_call (log_of_run object (world_after object w e) es))) same rest))
  ]

  numbers_run : (w : WorldOf S I R) (es : List (Event I)) (start : S) → IsRun w es start
      → (j : ℕ) (x : Entry I R) → slice_get (log_of_run object w es) j ≡ Some x → x.number ≡ seq_of w.memory Anchor + j + 1
  numbers_run w [] start run j x at = (entry_at object w run.inv.0 run.inv.1 run.inv.2 j x at).number
  numbers_run w (e ∷ es) start run j x at = elim (run_cases w e es start run) [
    | inl on ↦
        let rest = numbers_run (world_after object w e) es start on.1 j x (subst (λ xs. slice_get xs j ≡ Some x) (on.0.joined es) at) in
        let same = on.0.number in
        omega arith
    | inr end ↦ elim (slice_get-append_cases (log w) (log_of_run object (world_after object w e) es) j x (subst (λ xs. slice_get xs j ≡ Some x) (end.0.joined es) at)) [
      | inl here ↦ (entry_at object w run.inv.0 run.inv.1 run.inv.2 j x here).number
      | inr after ↦
          let rest = numbers_run (world_after object w e) es (state_after object start (invocations_of w)) end.1 after.0 x after.2 in
          let next = end.0.number in
          let place = after.1 in
          omega arith
    ]
  ]

  begun_more : (w : WorldOf S I R) (es : List (Event I)) (start : S) → IsRun w es start → (p : ℕ) → w.begun p ≤ (world_after_all object w es).begun p
  begun_more w [] start run p = omega arith
  begun_more w (e ∷ es) start run p = elim (run_cases w e es start run) [
    | inl on ↦ let rest = begun_more (world_after object w e) es start on.1 p in let first = on.0.begun p in omega arith
    | inr end ↦
        let rest = begun_more (world_after object w e) es (state_after object start (invocations_of w)) end.1 p in
        let same : (world_after object w e).begun p ≡ w.begun p = ap (λ f. f p) end.0.begun in
        omega arith
  ]

  -- the calls are those that were begun since the era of w began
  pub begun_run : (w : WorldOf S I R) (es : List (Event I)) (start : S) → IsRun w es start → (j : ℕ) (x : Entry I R) → slice_get (log_of_run object w es) j ≡ Some x
      → (w.first x.call.process ≤ x.call.nth) × (x.call.nth < (world_after_all object w es).begun x.call.process)
  begun_run w [] start run j x at = begun_of_entry object w run.inv.0 run.inv.1 run.inv.2 j x at
  begun_run w (e ∷ es) start run j x at = elim (run_cases w e es start run) [
    | inl on ↦
        let rest = begun_run (world_after object w e) es start on.1 j x (subst (λ xs. slice_get xs j ≡ Some x) (on.0.joined es) at) in
        (subst (λ (f : ℕ → ℕ). f x.call.process ≤ x.call.nth) on.0.first rest.0, rest.1)
    | inr end ↦ elim (slice_get-append_cases (log w) (log_of_run object (world_after object w e) es) j x (subst (λ xs. slice_get xs j ≡ Some x) (end.0.joined es) at)) [
      | inl here ↦
          let its = begun_of_entry object w run.inv.0 run.inv.1 run.inv.2 j x here in
          let more = begun_more w (e ∷ es) start run x.call.process in
          (its.0, (let less : x.call.nth < w.begun x.call.process = its.1 in omega arith))
      | inr after ↦
          let rest = begun_run (world_after object w e) es (state_after object start (invocations_of w)) end.1 after.0 x after.2 in
          let since : w.begun x.call.process ≤ x.call.nth = subst (λ (f : ℕ → ℕ). f x.call.process ≤ x.call.nth) end.0.first rest.0 in
          let first = run.inv.2.calls.first x.call.process in
          (omega arith, rest.1)
    ]
  ]

  once_run : (w : WorldOf S I R) (es : List (Event I)) (start : S) → IsRun w es start
      → (i j : ℕ) (x y : Entry I R) → slice_get (log_of_run object w es) i ≡ Some x → slice_get (log_of_run object w es) j ≡ Some y
      → x.call.process ≡ y.call.process → x.call.nth ≡ y.call.nth → i ≡ j
  once_run w [] start run i j x y at_i at_j process nth = place_of_entry object w run.inv.0 run.inv.1 run.inv.2 i j x y at_i at_j process nth
  once_run w (e ∷ es) start run i j x y at_i at_j process nth = elim (run_cases w e es start run) [
    | inl on ↦ once_run (world_after object w e) es start on.1 i j x y (subst (λ xs. slice_get xs i ≡ Some x) (on.0.joined es) at_i)
        (subst (λ xs. slice_get xs j ≡ Some y) (on.0.joined es) at_j) process nth
    | inr end ↦
        let later = world_after object w e in
        let next = state_after object start (invocations_of w) in
        let cases_i = slice_get-append_cases (log w) (log_of_run object later es) i x (subst (λ xs. slice_get xs i ≡ Some x) (end.0.joined es) at_i) in
        let cases_j = slice_get-append_cases (log w) (log_of_run object later es) j y (subst (λ xs. slice_get xs j ≡ Some y) (end.0.joined es) at_j) in
        elim cases_i [
          | inl here_i ↦ elim cases_j [
            | inl here_j ↦ place_of_entry object w run.inv.0 run.inv.1 run.inv.2 i j x y here_i here_j process nth
            | inr after_j ↦ absurd (apart end.0 end.1 i after_j.0 x y here_i after_j.2 process nth)
          ]
          | inr after_i ↦ elim cases_j [
            | inl here_j ↦ absurd (apart end.0 end.1 j after_i.0 y x here_j after_i.2 (sym process) (sym nth))
            | inr after_j ↦
                let same : after_i.0 ≡ after_j.0 = once_run later es next end.1 after_i.0 after_j.0 x y after_i.2 after_j.2 process nth in
                let place_i = after_i.1 in
                let place_j = after_j.1 in
                omega arith
          ]
        ]
  ] where
    apart : EndsEra object w e start → IsRun (world_after object w e) es (state_after object start (invocations_of w)) → (i j : ℕ) (x y : Entry I R)
        → slice_get (log w) i ≡ Some x → slice_get (log_of_run object (world_after object w e) es) j ≡ Some y → x.call.process ≡ y.call.process → x.call.nth ≡ y.call.nth → ⊥
    apart end rest i j x y at_i at_j process nth =
        let old : x.call.nth < w.begun x.call.process = (begun_of_entry object w run.inv.0 run.inv.1 run.inv.2 i x at_i).1 in
        let new : w.begun y.call.process ≤ y.call.nth
        = subst (λ (f : ℕ → ℕ). f y.call.process ≤ y.call.nth) end.first (begun_run (world_after object w e) es (state_after object start (invocations_of w)) rest j y at_j).0 in
        let same : w.begun x.call.process ≡ w.begun y.call.process = ap w.begun process in
        omega arith

  answered_run : (w : WorldOf S I R) (es : List (Event I)) (start : S) → IsRun w es start
      → (j : ℕ) (x : Entry I R) → slice_get (log_of_run object w es) j ≡ Some x → j + 1 < length (log_of_run object w es) → IsSome x.response
  answered_run w [] start run j x at inside = (IsLegalLog-sound object w run.inv.0 run.inv.1 run.inv.2 start run.anchor).answered j x at inside
  answered_run w (e ∷ es) start run j x at inside = elim (run_cases w e es start run) [
    | inl on ↦ answered_run (world_after object w e) es start on.1 j x (subst (λ xs. slice_get xs j ≡ Some x) (on.0.joined es) at) (subst (λ xs. j + 1 < length xs) (on.0.joined es) inside)
    | inr end ↦ elim (slice_get-append_cases (log w) (log_of_run object (world_after object w e) es) j x (subst (λ xs. slice_get xs j ≡ Some x) (end.0.joined es) at)) [
      | inl here ↦ answered_when_quiescent object w run.inv.0 run.inv.1 run.inv.2 end.0.quiet j x here
      | inr after ↦
          let long : j + 1 < length (log w ++ log_of_run object (world_after object w e) es) = subst (λ xs. j + 1 < length xs) (end.0.joined es) inside in
          let all : length (log w ++ log_of_run object (world_after object w e) es) ≡ length (log w) + length (log_of_run object (world_after object w e) es)
          = length-append (log w) (log_of_run object (world_after object w e) es) in
          let place = after.1 in
          answered_run (world_after object w e) es (state_after object start (invocations_of w)) end.1 after.0 x after.2 (omega arith)
    ]
  ]

  -- the log of an era is a prefix of the joined log from it on
  prefix_run : (w : WorldOf S I R) (es : List (Event I)) (start : S) → IsRun w es start → IsPrefixOf (log w) (log_of_run object w es)
  prefix_run w [] start run = IsPrefixOf-same (log w)
  prefix_run w (e ∷ es) start run = elim (run_cases w e es start run) [
    | inl on ↦ subst (λ xs. IsPrefixOf (log w) xs) (sym (on.0.joined es)) (
        IsPrefixOf-then (log w) (log (world_after object w e)) (log_of_run object (world_after object w e) es)
        (log-world_after object w e run.inv run.accepted.0 on.0.stays) (prefix_run (world_after object w e) es start on.1))
    | inr end ↦ subst (λ xs. IsPrefixOf (log w) xs) (sym (end.0.joined es)) (IsPrefixOf-append (log w) (log_of_run object (world_after object w e) es))
  ]

  pub prefixes_run : (w : WorldOf S I R) (es : List (Event I)) (start : S) → IsRun w es start → (j : ℕ) → IsPrefixOf (log_of_run object w (take j es)) (log_of_run object w es)
  prefixes_run w es start run zero = prefix_run w es start run
  prefixes_run w [] start run (suc j) = IsPrefixOf-same (log w)
  prefixes_run w (e ∷ es) start run (suc j) = elim (run_cases w e es start run) [
    | inl on ↦ rw (on.0.joined es, on.0.joined (take j es)) (prefixes_run (world_after object w e) es start on.1 j)
    | inr end ↦ rw (end.0.joined es, end.0.joined (take j es)) (
        IsPrefixOf-behind (log w) (log_of_run object (world_after object w e) (take j es)) (log_of_run object (world_after object w e) es)
        (prefixes_run (world_after object w e) es (state_after object start (invocations_of w)) end.1 j))
  ]

  -- the state and the number after all entries are those after the last era's, from its anchor on
  ended_run : (w : WorldOf S I R) (es : List (Event I)) (start : S) → IsRun w es start
      → let last = world_after_all object w es in let joined = log_of_run object w es in
      (s : S) × (new_of last.memory Anchor ≡ Some (s, None))
      × (state_after object s (invocations_of last) ≡ state_after object start (map (λ (e : Entry I R). e.call.inv) joined))
      × (seq_of last.memory Anchor + length (log last) ≡ seq_of w.memory Anchor + length joined)
  ended_run w [] start run = (start, run.anchor, ap (state_after object start) (map-calls (log w)), refl)
  ended_run w (e ∷ es) start run = elim (run_cases w e es start run) [
    | inl on ↦
        let rest = ended_run (world_after object w e) es start on.1 in
        let tail = log_of_run object (world_after object w e) es in (
          rest.0,
          rest.1,
          rest.2 ∙ ap (λ xs. state_after object start (map (λ (e : Entry I R). e.call.inv) xs)) (sym (on.0.joined es)),
          rw (on.0.joined es) (rest.3 ∙ ap (λ k. k + length tail) on.0.number),
        )
    | inr end ↦
        let tail = log_of_run object (world_after object w e) es in
        let rest = ended_run (world_after object w e) es (state_after object start (invocations_of w)) end.1 in (
          rest.0,
          rest.1,
          rest.2 ∙ ap (λ is. state_after object (state_after object start is) (map (λ (e : Entry I R). e.call.inv) tail)) (map-calls (log w))
              ∙ sym (state_after-append object start (map (λ (e : Entry I R). e.call.inv) (log w)) (map (λ (e : Entry I R). e.call.inv) tail))
              ∙ ap (state_after object start) (sym (map-append (λ (e : Entry I R). e.call.inv) (log w) tail))
              ∙ ap (λ xs. state_after object start (map (λ (e : Entry I R). e.call.inv) xs)) (sym (end.0.joined es)),
          (let all : length (log_of_run object w (e ∷ es)) ≡ length (log w) + length tail = ap (λ (xs : List (Entry I R)). length xs) (end.0.joined es) ∙ length-append (log w) tail in
              let sum = rest.3 in let number = end.0.number in omega arith),
        )
  ]

  pub JoinsLegalLogs-holds : (n : ℕ) (start : S) (number : ℕ) (es : List (Event I)) → JoinsLegalLogs object n start number es
  JoinsLegalLogs-holds n start number es positive ok =
      let run = IsRun-opened_world n start number es positive ok in
      record {
        legal = legal_run (opened_world n start number) es start run;
        once = once_run (opened_world n start number) es start run;
        numbers = numbers_run (opened_world n start number) es start run;
        answered = answered_run (opened_world n start number) es start run;
      }

  pub JoinedLogGrows-holds : (n : ℕ) (start : S) (number : ℕ) (es : List (Event I)) → JoinedLogGrows object n start number es
  JoinedLogGrows-holds n start number es positive ok j = prefixes_run (opened_world n start number) es start (IsRun-opened_world n start number es positive ok) j

  pub EraLeaves-holds : (w : WorldOf S I R) (n : ℕ) → EraLeaves object w n
  EraLeaves-holds w n inv quiet start anchor = world_after_era-quiet object w inv.0 inv.1 inv.2 quiet start anchor n

  pub EraOfRunLeaves-holds : (n : ℕ) (start : S) (number : ℕ) (es : List (Event I)) (next_n : ℕ) → EraOfRunLeaves object n start number es next_n
  EraOfRunLeaves-holds n start number es next_n positive ok quiet =
      let w = world_after_all object (opened_world n start number) es in
      let run = IsRun-opened_world n start number es positive ok in
      let ended = ended_run (opened_world n start number) es start run in
      EraLeaves-holds w next_n (Invariant-world_after_all object (opened_world n start number) es ok run.inv) quiet ended.0 ended.1
      ∙ ap (λ s. let x : WorldOf S I R = record w { n = next_n; first = w.begun; memory = anchor_memory s (seq_of w.memory Anchor + length (log w)) } in x) ended.2
      ∙ ap (λ t. let x : WorldOf S I R = record w {
        n = next_n;
        first = w.begun;
        memory = anchor_memory (state_after object start (map (λ (e : Entry I R). e.call.inv) (log_of_run object (opened_world n start number) es))) t;
      } in x) ended.3
