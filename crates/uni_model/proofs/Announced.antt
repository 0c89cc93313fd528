-- A pending call has a floor exactly where it has been announced.
use Rattle.uni_model.proofs.Vocabulary.{Announce, Bool, Call, CountsSteps, Event, HasFloorOnceAnnounced, HelpingInvariant, IsSome, List, Name, None, Of, Option, Pending, Reshape, Sequential, Some, Stage, Step, Trim, WorldOf, [], anchor_memory, announces, announces_at, ap, call_after, cond, false, floor_of, frontier, inl, inr, last_cell, name_eq, new_of, opened_world, option_map_or, refl, seq_of, subst, sym, true, world_after, world_after_all, world_after_era, world_after_step, ℕ, ◌∙◌, ◌∷◌, ◌≡◌, ◌≢◌, ◌⊎◌}
use Rattle.uni_model.proofs.Written.{name_eq_same, number_cases}
use Rattle.uni_model.proofs.Counted.{CountsSteps-opened_world}
use Rattle.uni_model.proofs.Bounded.{HelpingInvariant-opened_world, HelpingInvariant-world_after_all}
use Rattle.uni_model.proofs.Soon.{FloorInvariant-floor}

-- the end of an era begins and ends no call
call-world_after_era : {S I R : Type 0} (w : WorldOf S I R) (n q : ℕ) → (world_after_era w n).call q ≡ w.call q
call-world_after_era {S} {I} {R} w n q = by_new (new_of w.memory (last_cell w)) where
  by_new : (o : Option (S × Option R)) → (option_map_or (λ new. record w { n = n; first = w.begun; memory = anchor_memory new.0 (seq_of w.memory (last_cell w)) }) o w).call q ≡ w.call q
  by_new None = refl
  by_new (Some new) = refl

module _ {S I R : Type 0} (object : Sequential S I R) where
  -- a pending call that has been announced by the end of a run was so at its start, or the run gives it its floor
  floor_or_announced : (w : WorldOf S I R) (es : List (Event I)) (p : ℕ) (x : Name) (c : Pending) → (world_after_all object w es).call p ≡ Some c → c.mine ≡ x → c.stage ≢ Announce
      → IsSome (floor_of object x w es) ⊎ ((d : Pending) × (w.call p ≡ Some d) × (d.mine ≡ x) × (d.stage ≢ Announce))
  floor_or_announced w [] p x c pending its past = inr (c, pending, its, past)
  floor_or_announced w (Call o i ∷ es) p x c pending its past = elim (floor_or_announced (world_after object w (Call o i)) es p x c pending its past) [
    | inl some ↦ inl some
    | inr was ↦ elim (number_cases p o) [
      | inl here ↦ absurd (
          let new : record { mine = Of o (w.begun o); stage = Announce } ≡ was.0 = (let f = rw here.1 at was.1 in cc) in
          was.3 (sym (ap (λ (y : Pending). y.stage) new)))
      | inr other ↦ inr (was.0, rw other.1 at was.1, was.2, was.3)
    ]
  ]
  floor_or_announced w (Trim ∷ es) p x c pending its past = elim (floor_or_announced (world_after object w Trim) es p x c pending its past) [
    | inl some ↦ inl some
    | inr was ↦ inr (was.0, sym (call-world_after_era w w.n p) ∙ was.1, was.2, was.3)
  ]
  floor_or_announced w (Reshape n ∷ es) p x c pending its past = elim (floor_or_announced (world_after object w (Reshape n)) es p x c pending its past) [
    | inl some ↦ inl some
    | inr was ↦ inr (was.0, sym (call-world_after_era w n p) ∙ was.1, was.2, was.3)
  ]
  floor_or_announced w (Step o ∷ es) p x c pending its past = by_test (floor_or_announced (world_after object w (Step o)) es p x c pending its past) (announces x (w.call o)) refl where
    at_call : (call : Option Pending) → w.call o ≡ call → announces x call ≡ false → (d : Pending) → (world_after_step object w o call).call p ≡ Some d → d.mine ≡ x → d.stage ≢ Announce
        → (d : Pending) × (w.call p ≡ Some d) × (d.mine ≡ x) × (d.stage ≢ Announce)
    at_call None is silent d pending its past = (d, pending, its, past)
    at_call (Some e) is silent d pending its past = elim (number_cases p o) [
      | inl here ↦ at_stage here.0 _ (rw here.1 at pending)
      | inr other ↦ (d, rw other.1 at pending, its, past)
    ] where
      at_stage : p ≡ o → (to : Option Stage) → call_after e.mine to ≡ Some d → (d : Pending) × (w.call p ≡ Some d) × (d.mine ≡ x) × (d.stage ≢ Announce)
      at_stage here None f = cc
      at_stage here (Some k) f =
          let same : record { mine = e.mine; stage = k } ≡ d = cc in
          let mine : e.mine ≡ x = ap (λ (y : Pending). y.mine) same ∙ its in (
            e,
            ap w.call here ∙ is,
            mine,
            λ first.
                let test : announces_at (name_eq x e.mine) Announce ≡ false = subst (λ j. announces_at (name_eq x e.mine) j ≡ false) first silent in
                let own : name_eq x x ≡ false = subst (λ y. name_eq x y ≡ false) mine test in
                let t : name_eq x x ≡ true = name_eq_same x in
                cc,
          )

    by_test : IsSome (floor_of object x (world_after object w (Step o)) es) ⊎ ((d : Pending) × ((world_after object w (Step o)).call p ≡ Some d) × (d.mine ≡ x) × (d.stage ≢ Announce))
        → (b : Bool) → announces x (w.call o) ≡ b
        → IsSome (cond b (Some (frontier w)) (floor_of object x (world_after object w (Step o)) es)) ⊎ ((d : Pending) × (w.call p ≡ Some d) × (d.mine ≡ x) × (d.stage ≢ Announce))
    by_test rest true announcing = inl refl
    by_test rest false silent = elim rest [
      | inl some ↦ inl some
      | inr was ↦ inr (at_call (w.call o) refl silent was.0 was.1 was.2 was.3)
    ]

  pub HasFloorOnceAnnounced-holds : (n : ℕ) (start : S) (number : ℕ) (events : List (Event I)) → HasFloorOnceAnnounced object n start number events
  HasFloorOnceAnnounced-holds n start number events positive ok p c pending = (floored (floor_of object c.mine (opened_world n start number) events) refl, announced) where
    counts : CountsSteps (opened_world {S = S} {I = I} {R = R} n start number)
    counts = CountsSteps-opened_world object n start number

    held : HelpingInvariant object (opened_world {S = S} {I = I} {R = R} n start number)
    held = HelpingInvariant-opened_world object n start number positive

    floored : (o : Option ℕ) → floor_of object c.mine (opened_world n start number) events ≡ o → IsSome o → c.stage ≢ Announce
    floored None e some = absurd (let f : false ≡ true = some in cc)
    floored (Some floor) e some =
        let its = (HelpingInvariant-world_after_all object (opened_world n start number) events ok counts held).2.calls.mine p c pending in
        let inv = FloorInvariant-floor object (opened_world n start number) events ok counts held p its.0 floor (ap (λ x. floor_of object x (opened_world n start number) events) (sym its.1) ∙ e) in
        inv.2 c pending its.1

    announced : c.stage ≢ Announce → IsSome (floor_of object c.mine (opened_world n start number) events)
    announced past = elim (floor_or_announced (opened_world n start number) events p c.mine c pending refl past) [
      | inl some ↦ some
      | inr was ↦ absurd (let f : None ≡ Some was.0 = was.1 in cc)
    ]
