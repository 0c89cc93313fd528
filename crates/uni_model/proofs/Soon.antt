-- A call that has a floor is linked soon.
use Rattle.uni_model.proofs.Vocabulary.{Anchor, Announce, AreAccepted, Bool, Call, Contains, CountsSteps, Event, HelpingInvariant, IsLinkedSoon, LinksSoon, List, Name, None, Of, Option, Pending, Reshape, Sequential, Some, Stage, Step, Trim, WorldOf, [], announces, announces_at, ap, arith, cases_lt, chain, cond, era_calls, false, floor_of, frontier, get_or_from_slice_get, inl, inr, length, name_eq, opened_world, refl, seq_of, slice_get, slice_get_within, subst, sym, true, world_after, world_after_all, world_after_step, ℕ, ◌+◌, ◌-◌, ◌<◌, ◌∙◌, ◌∷◌, ◌≡◌, ◌≤◌}
use Rattle.uni_model.proofs.Floored.{FloorInvariant}
use Rattle.uni_model.proofs.Written.{name_eq_true}
use Rattle.uni_model.proofs.Chains.{number_at, slice_get-cells_from, length-cells_from}
use Rattle.uni_model.proofs.FloorStep.{last-le}
use Rattle.uni_model.proofs.Simulation.{enough}
use Rattle.uni_model.proofs.Counted.{CountsSteps-opened_world, CountsSteps-world_after}
use Rattle.uni_model.proofs.Bounded.{HelpingInvariant-opened_world, HelpingInvariant-world_after}
use Rattle.uni_model.proofs.Floors.{FloorInvariant-announced, FloorInvariant-world_after_all}

announces_at_true : (same : Bool) (stage : Stage) → announces_at same stage ≡ true → (stage ≡ Announce) × (same ≡ true)
announces_at_true same Announce e = (refl, e)
announces_at_true same _ e = cc

-- the next step announces x
announces_true : (x : Name) (call : Option Pending) → announces x call ≡ true → call ≡ Some (record { mine = x; stage = Announce })
announces_true x None e = cc
announces_true x (Some c) e =
    let is = announces_at_true (name_eq x c.mine) c.stage e in
    ap (λ k. Some (record { mine = c.mine; stage = k })) is.0 ∙ ap (λ y. Some (record { mine = y; stage = Announce })) (sym (name_eq_true x c.mine is.1))

Contains-slice_get : {A : Type 0} (xs : List A) (place : ℕ) (x : A) → slice_get xs place ≡ Some x → Contains xs x
Contains-slice_get xs place x e = (place, slice_get_within xs place x e, get_or_from_slice_get xs place x x e)

module _ {S I R : Type 0} (object : Sequential S I R) where
  IsLinkedSoon-held : (w : WorldOf S I R) (p k floor : ℕ) → FloorInvariant object w p k floor → IsLinkedSoon w p k floor
  IsLinkedSoon-held w p k floor inv =
      let num = inv.0.0 in
      let last = inv.0.1 in
      let numbered = inv.0.2.numbered in
      let anchor : num Anchor ≡ seq_of w.memory Anchor = numbered.anchor in
      let long_enough : last ≤ num Anchor + era_calls w = enough object w num last inv.0.2 in
      record {
        linked = λ place e.
            let number : num (Of p k) ≡ num Anchor + (place + 1) = number_at w.memory num last numbered (era_calls w) Anchor (Of p k) place e in
            let bound : num (Of p k) ≤ floor + w.n + 1 = inv.1.linked in
            omega arith;
        waiting = λ c pending its outside.
            let end : num Anchor + length (chain w) ≡ last = length-cells_from w.memory num last numbered (era_calls w) Anchor numbered.first long_enough in
            elim (cases_lt 0 (num (Of p k))) [
              | inl linked ↦ absurd (outside (
                  let least : num Anchor ≤ num (Of p k) = numbered.least (Of p k) linked in
                  let top : num (Of p k) ≤ last = numbered.greatest (Of p k) in
                  let place : ℕ = num (Of p k) - num Anchor - 1 in
                  let past : num Anchor < num (Of p k) = elim (cases_lt (num Anchor) (num (Of p k))) [
                    | inl less ↦ less
                    | inr more ↦ absurd (let same = numbered.one_each Anchor (Of p k) numbered.first (omega arith) in cc)
                  ] in
                  Contains-slice_get (chain w) place (Of p k)
                  (slice_get-cells_from w.memory num last numbered (era_calls w) Anchor (Of p k) place numbered.first (omega arith) (omega arith))))
              | inr none ↦
                  let near : last ≤ floor + w.n = last-le w num last p (Of p k) floor (inv.0.2.calls.process p c pending) (inv.1.waits c pending its) (omega arith) in
                  omega arith
            ];
      }

  -- a call with a floor has it in the world that is reached
  pub FloorInvariant-floor : (w : WorldOf S I R) (es : List (Event I)) → AreAccepted object w es → CountsSteps w → HelpingInvariant object w
      → (p k floor : ℕ) → floor_of object (Of p k) w es ≡ Some floor → FloorInvariant object (world_after_all object w es) p k floor
  FloorInvariant-floor w [] ok counts inv p k floor e = cc
  FloorInvariant-floor w (Call o i ∷ es) ok counts inv p k floor e =
      FloorInvariant-floor (world_after object w (Call o i)) es ok.1 (CountsSteps-world_after object w (Call o i) ok.0 (inv.0, inv.1, inv.2) counts)
      (HelpingInvariant-world_after object w (Call o i) ok.0 counts inv) p k floor e
  FloorInvariant-floor w (Trim ∷ es) ok counts inv p k floor e =
      FloorInvariant-floor (world_after object w Trim) es ok.1 (CountsSteps-world_after object w Trim ok.0 (inv.0, inv.1, inv.2) counts)
      (HelpingInvariant-world_after object w Trim ok.0 counts inv) p k floor e
  FloorInvariant-floor w (Reshape n ∷ es) ok counts inv p k floor e =
      FloorInvariant-floor (world_after object w (Reshape n)) es ok.1 (CountsSteps-world_after object w (Reshape n) ok.0 (inv.0, inv.1, inv.2) counts)
      (HelpingInvariant-world_after object w (Reshape n) ok.0 counts inv) p k floor e
  FloorInvariant-floor w (Step o ∷ es) ok counts inv p k floor e =
      let counts' : CountsSteps (world_after object w (Step o)) = CountsSteps-world_after object w (Step o) ok.0 (inv.0, inv.1, inv.2) counts in
      by_test counts' (λ f. FloorInvariant-floor (world_after object w (Step o)) es ok.1 counts' (HelpingInvariant-world_after object w (Step o) ok.0 counts inv) p k floor f)
      (announces (Of p k) (w.call o)) refl e where
        by_test : CountsSteps (world_after object w (Step o))
            → (floor_of object (Of p k) (world_after object w (Step o)) es ≡ Some floor → FloorInvariant object (world_after_all object (world_after object w (Step o)) es) p k floor)
            → (b : Bool) → announces (Of p k) (w.call o) ≡ b → cond b (Some (frontier w)) (floor_of object (Of p k) (world_after object w (Step o)) es) ≡ Some floor
            → FloorInvariant object (world_after_all object (world_after object w (Step o)) es) p k floor
        by_test counts' rest false announcing f = rest f
        by_test counts' rest true announcing f =
            let pending : w.call o ≡ Some (record { mine = Of p k; stage = Announce }) = announces_true (Of p k) (w.call o) announcing in
            let its = inv.2.calls.mine o (record { mine = Of p k; stage = Announce }) pending in
            let name : Of p k ≡ Of o its.0 = its.1 in
            let here : o ≡ p = (let g = name in cc) in
            let same : frontier w ≡ floor = (let g = f in cc) in
            let at_p : w.call p ≡ Some (record { mine = Of p k; stage = Announce }) = ap w.call (sym here) ∙ pending in
            let now : FloorInvariant object (world_after_step object w p (Some (record { mine = Of p k; stage = Announce }))) p k (frontier w) = FloorInvariant-announced object w p k at_p counts inv in
            let after : FloorInvariant object (world_after object w (Step o)) p k floor
            = subst (λ r. FloorInvariant object (world_after object w (Step r)) p k floor) (sym here)
            (subst (λ j. FloorInvariant object (world_after_step object w p (w.call p)) p k j) same
            (subst (λ call. FloorInvariant object (world_after_step object w p call) p k (frontier w)) (sym at_p) now)) in
            FloorInvariant-world_after_all object (world_after object w (Step o)) es ok.1 counts' p k floor after

  pub LinksSoon-holds : (n : ℕ) (start : S) (number : ℕ) (events : List (Event I)) → LinksSoon object n start number events
  LinksSoon-holds n start number events positive ok p k floor e =
      IsLinkedSoon-held (world_after_all object (opened_world n start number) events) p k floor
      (FloorInvariant-floor (opened_world n start number) events ok (CountsSteps-opened_world object n start number) (HelpingInvariant-opened_world object n start number positive) p k floor e)
