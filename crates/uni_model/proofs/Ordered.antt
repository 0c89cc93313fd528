-- The joined log keeps real-time order.
use Rattle.uni_model.proofs.Vocabulary.{Anchor, Call, Entry, Event, Has, HasReturned, Invariant, IsPrefixOf, KeepsRealTime, List, None, Of, Option, Pending, Sequential, Some, StandsAt, Step, WorldOf, [], ap, arith, cases_lt, chain, inl, inr, inv_of, invocations_of, length, log, log_of_run, opened_world, option_and_then, refl, response_in, seq_of, set_at, slice_get, slice_get_cases, slice_get_within, state_after, subst, suc, sym, take, world_after, world_after_all, world_after_step, zero, ℕ, ◌++◌, ◌+◌, ◌<◌, ◌∙◌, ◌∷◌, ◌≡◌, ◌≤◌}
use Rattle.uni_model.proofs.Written.{set_at-cases, inv_of-memory_with}
use Rattle.uni_model.proofs.Grows.{Has-inv}
use Rattle.uni_model.proofs.Kept.{Grows-world_after, idle_when_quiescent}
use Rattle.uni_model.proofs.OneLists.{HasOneList-held}
use Rattle.uni_model.proofs.Growing.{entry_of, slice_get-log}
use Rattle.uni_model.proofs.Appended.{slice_get-append_left, slice_get-append_right}
use Rattle.uni_model.proofs.Eras.{event_cases}
use Rattle.uni_model.proofs.Joined.{IsRun, IsRun-opened_world, IsRun-take, run_cases, begun_run, prefixes_run}

-- each call that was begun in the era has its cell
abbrev pub HasCells : {S I R : Type 0} → WorldOf S I R → Type 0
HasCells w = (p k : ℕ) → w.first p ≤ k → k < w.begun p → Has (inv_of w.memory (Of p k))

module _ {I R : Type 0} where
  StandsAt-append_left : (xs ys : List (Entry I R)) (p k j : ℕ) → StandsAt xs p k j → StandsAt (xs ++ ys) p k j
  StandsAt-append_left xs ys p k j h = record { entry = h.entry; at = slice_get-append_left xs ys j h.entry h.at; process = h.process; nth = h.nth }

  StandsAt-append_right : (xs ys : List (Entry I R)) (p k j : ℕ) → StandsAt ys p k j → StandsAt (xs ++ ys) p k (length xs + j)
  StandsAt-append_right xs ys p k j h = record { entry = h.entry; at = slice_get-append_right xs ys j ∙ h.at; process = h.process; nth = h.nth }

  -- a call stands at its place in each later log
  StandsAt-prefix : (xs ys : List (Entry I R)) → IsPrefixOf xs ys → (p k j : ℕ) → StandsAt xs p k j → StandsAt ys p k j
  StandsAt-prefix xs ys prefix p k j h =
      let later = prefix.entries j h.entry h.at in
      let call : later.0.call ≡ h.entry.call = elim later.2 [ inl same ↦ ap (λ (e : Entry I R). e.call) same | inr gets ↦ gets.1.call ] in
      record { entry = later.0; at = later.1; process = ap (λ c. c.process) call ∙ h.process; nth = ap (λ c. c.nth) call ∙ h.nth }

module _ {S I R : Type 0} (object : Sequential S I R) where
  -- a threaded cell's call stands in the log
  stands_in_log : (w : WorldOf S I R) → Invariant object w → (p k : ℕ) → Has (inv_of w.memory (Of p k)) → 1 ≤ seq_of w.memory (Of p k) → (j : ℕ) × StandsAt (log w) p k j
  stands_in_log w inv p k made threaded = let at = (HasOneList-held object w inv).1.only (Of p k) threaded in by_place at.0 at.1 where
    by_place : (j : ℕ) → slice_get (Anchor ∷ chain w) j ≡ Some (Of p k) → (j : ℕ) × StandsAt (log w) p k j
    by_place zero at = absurd (let e : Anchor ≡ Of p k = cc in cc)
    by_place (suc j) at = (
      j,
      record {
        entry = record { number = seq_of w.memory Anchor + 1 + j; call = record { process = p; nth = k; inv = made.0 }; response = response_in w.memory (Of p k) };
        at = slice_get-log object w inv.0 inv.1 inv.2 j ∙ ap (option_and_then (entry_of w.memory (seq_of w.memory Anchor + 1 + j))) at ∙ rw made.1 refl;
        process = refl;
        nth = refl;
      },
    )

  HasCells-world_after : (w : WorldOf S I R) (e : Event I) (start : S) (es : List (Event I)) → IsRun object w (e ∷ es) start → HasCells w → HasCells (world_after object w e)
  HasCells-world_after w (Call p i) start es run cells q k since before = elim (set_at-cases w.begun p (w.begun p + 1) q) [
    | inl here ↦ elim (cases_lt k (w.begun p)) [
      | inl old ↦ Has-inv w.memory _ (Grows-world_after object w (Call p i) run.inv run.accepted.0 tt) (Of q k) (cells q k since (let same : w.begun q ≡ w.begun p = ap w.begun here.0 in omega arith))
      | inr new ↦
          let bound : set_at w.begun p (w.begun p + 1) q ≡ w.begun p + 1 = here.1 in
          let last : k ≡ w.begun p = omega arith in
          (i, elim (inv_of-memory_with w.memory (Of p (w.begun p)) (Of q k) (Some i)) [ inl h ↦ h.1 | inr h ↦ absurd (h.0 (rw (here.0, last) refl)) ])
    ]
    | inr other ↦ Has-inv w.memory _ (Grows-world_after object w (Call p i) run.inv run.accepted.0 tt) (Of q k) (cells q k since (let same = other.1 in omega arith))
  ]
  HasCells-world_after w (Step p) start es run cells q k since before =
      Has-inv w.memory _ (Grows-world_after object w (Step p) run.inv run.accepted.0 tt) (Of q k) (by_call (w.call p) since before) where
        by_call : (o : Option Pending) → (world_after_step object w p o).first q ≤ k → k < (world_after_step object w p o).begun q → Has (inv_of w.memory (Of q k))
        by_call None = cells q k
        by_call (Some c) = cells q k
  HasCells-world_after w e start es run cells q k since before = elim (event_cases object w run.inv start run.anchor e run.accepted.0) [
    | inl on ↦ absurd on.stays
    | inr end ↦ absurd (
        let first : (world_after object w e).first q ≡ w.begun q = ap (λ f. f q) end.first in
        let begun : (world_after object w e).begun q ≡ w.begun q = ap (λ f. f q) end.begun in
        omega arith)
  ]

  -- a call that has returned stands in the joined log
  returned_run : (w : WorldOf S I R) (es : List (Event I)) (start : S) → IsRun object w es start → HasCells w → (p k : ℕ) → w.first p ≤ k → HasReturned (world_after_all object w es) p k
      → (j : ℕ) × StandsAt (log_of_run object w es) p k j
  returned_run w [] start run cells p k since over =
      let made = cells p k since over.begun in
      elim (run.inv.2.calls.threaded p k made) [
        | inl threaded ↦ stands_in_log w run.inv p k made threaded
        | inr pending ↦ absurd (over.over pending.0 pending.1 pending.2)
      ]
  returned_run w (e ∷ es) start run cells p k since over = elim (run_cases object w e es start run) [
    | inl on ↦
        let rest = returned_run (world_after object w e) es start on.1 (HasCells-world_after w e start es run cells) p k (subst (λ (f : ℕ → ℕ). f p ≤ k) (sym on.0.first) since) over in
        (rest.0, subst (λ xs. StandsAt xs p k rest.0) (sym (on.0.joined es)) rest.1)
    | inr end ↦ elim (cases_lt k (w.begun p)) [
      | inl old ↦
          let made = cells p k since old in
          let threaded : 1 ≤ seq_of w.memory (Of p k) = elim (run.inv.2.calls.threaded p k made) [
            | inl threaded ↦ threaded
            | inr pending ↦ absurd (let none = idle_when_quiescent object w run.inv.0 run.inv.1 run.inv.2 end.0.quiet p in let some = pending.1 in cc)
          ] in
          let at = stands_in_log w run.inv p k made threaded in
          (at.0, subst (λ xs. StandsAt xs p k at.0) (sym (end.0.joined es)) (StandsAt-append_left (log w) (log_of_run object (world_after object w e) es) p k at.0 at.1))
      | inr new ↦
          let rest = returned_run (world_after object w e) es (state_after object start (invocations_of w)) end.1 (HasCells-world_after w e start es run cells) p k
          (subst (λ (f : ℕ → ℕ). f p ≤ k) (sym end.0.first) new) over in (
            length (log w) + rest.0,
            subst (λ xs. StandsAt xs p k (length (log w) + rest.0)) (sym (end.0.joined es)) (StandsAt-append_right (log w) (log_of_run object (world_after object w e) es) p k rest.0 rest.1),
          )
    ]
  ]

  pub KeepsRealTime-holds : (n : ℕ) (start : S) (number : ℕ) (es : List (Event I)) → KeepsRealTime object n start number es
  KeepsRealTime-holds n start number es positive ok j p k q i place over later stands =
      let opened = opened_world {S = S} {I = I} {R = R} n start number in
      let run = IsRun-opened_world object n start number es positive ok in
      let early = IsRun-take object j opened es start run in
      let prefix = prefixes_run object opened es start run j in
      let returned = returned_run opened (take j es) start early (λ a b since before. absurd (omega arith)) p k (omega arith) over in
      let within : returned.0 < length (log_of_run object opened (take j es)) = slice_get_within (log_of_run object opened (take j es)) returned.0 returned.1.entry returned.1.at in
      let past : length (log_of_run object opened (take j es)) ≤ place = elim (cases_lt place (length (log_of_run object opened (take j es)))) [
        | inr past ↦ past
        | inl inside ↦ elim (slice_get_cases (log_of_run object opened (take j es)) place).1 [
          | inr none ↦ absurd (let long = none.0 in omega arith)
          | inl there ↦ absurd (
              let kept = prefix.entries place there.0 there.2 in
              let call : kept.0.call ≡ there.0.call = elim kept.2 [ inl same ↦ ap (λ (e : Entry I R). e.call) same | inr gets ↦ gets.1.call ] in
              let same : kept.0 ≡ stands.entry = (let a = kept.1 in let b = stands.at in cc) in
              let process : there.0.call.process ≡ q = ap (λ c. c.process) (sym call) ∙ ap (λ (e : Entry I R). e.call.process) same ∙ stands.process in
              let nth : there.0.call.nth ≡ i = ap (λ c. c.nth) (sym call) ∙ ap (λ (e : Entry I R). e.call.nth) same ∙ stands.nth in
              let less = (begun_run object opened (take j es) start early place there.0 there.2).1 in
              let begun : (world_after_all object opened (take j es)).begun there.0.call.process ≡ (world_after_all object opened (take j es)).begun q
              = ap (world_after_all object opened (take j es)).begun process in
              omega arith)
        ]
      ] in
      (returned.0, omega arith, StandsAt-prefix (log_of_run object opened (take j es)) (log_of_run object opened es) prefix p k returned.0 returned.1)
