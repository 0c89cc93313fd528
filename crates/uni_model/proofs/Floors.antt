-- Every event that is accepted keeps the floor of a call.
use Rattle.uni_model.proofs.Vocabulary.{Announce, AreAccepted, Call, CountsSteps, Event, HelpingInvariant, IsAccepted, IsQuiescent, List, None, Of, Option, Pending, Reshape, Sequential, Some, Step, Trim, WorldOf, [], anchor_memory, arith, effect_of, frontier, inl, inr, last_cell, memory_with, new_of, option_map_or, place_of, refl, seq_of, set_at, turn_of, world_after, world_after_all, world_after_era, world_after_step, ℕ, ◌+◌, ◌∷◌, ◌≡◌, ◌≢◌, ◌⊎◌}
use Rattle.uni_model.proofs.Floored.{HasFloor, FloorInvariant}
use Rattle.uni_model.proofs.Steps.{leads}
use Rattle.uni_model.proofs.Kept.{idle_when_quiescent}
use Rattle.uni_model.proofs.Counted.{IsCounted-pending, CountsSteps-world_after}
use Rattle.uni_model.proofs.Advanced.{advances}
use Rattle.uni_model.proofs.Bounded.{HelpingInvariant-world_after_step, HelpingInvariant-begun, HelpingInvariant-anchor_memory}
use Rattle.uni_model.proofs.FloorStep.{considers_below, HasFloor-moved, IsAnnounced-moved}
use Rattle.uni_model.proofs.FloorCall.{HasFloor-announced, HasFloor-begun, IsAnnounced-begun}

module _ {S I R : Type 0} (object : Sequential S I R) where
  -- a step: of another process than the one that has announced its call, or the step that does so
  FloorInvariant-world_after_step : (w : WorldOf S I R) (p : ℕ) (d : Pending) → w.call p ≡ Some d → CountsSteps w → (inv : HelpingInvariant object w)
      → (q k floor : ℕ) → HasFloor w inv.0 inv.1 q k floor → ((c : Pending) → w.call q ≡ Some c → c.mine ≡ Of q k → (c.stage ≢ Announce) ⊎ (q ≡ p))
      → FloorInvariant object (world_after_step object w p (Some d)) q k floor
  FloorInvariant-world_after_step w p d is counts inv q k floor has known =
      let moved = leads object w inv.0 inv.1 inv.2 p d.mine d.stage is d.stage (inv.2.stands p d is) in
      let own = IsCounted-pending w counts p d is in
      let place = place_of w.n p d.mine d.stage in
      let e = effect_of object w.n d.mine d.stage (w.memory place) w.memory in
      let inside = inv.2.calls.process p d is in
      let on = advances object w inv.0 inv.1 inv.2 inv.3 p d.mine inside (inv.2.calls.head p inside) moved.0 moved.3.numbers d.stage is (inv.2.stands p d is) (inv.3.each p d is) own.1 in
      let considers = considers_below object w inv.0 inv.1 inv.2 p d.mine q (Of q k) floor d.stage in (
        HelpingInvariant-world_after_step object w p d is counts inv,
        HasFloor-moved object w inv.0 inv.1 inv.2 inv.3 p d.mine d.stage is (memory_with w.memory place e.content) moved.0 moved.1 e.stage moved.3 moved.2
            (w.turns p + turn_of d.stage (w.memory place)) on q k floor has known considers (set_at w.steps p (w.steps p + 1)),
        IsAnnounced-moved object w inv.0 inv.1 inv.2 inv.3 p d.mine d.stage is (memory_with w.memory place e.content) moved.0 moved.1 e.stage moved.3 moved.2
            (w.turns p + turn_of d.stage (w.memory place)) on q k floor has known considers (set_at w.steps p (w.steps p + 1)),
      )

  -- where no call is pending, none waits
  FloorInvariant-world_after_era : (w : WorldOf S I R) (n : ℕ) → IsQuiescent w → CountsSteps w → (q k floor : ℕ) → FloorInvariant object w q k floor → FloorInvariant object (world_after_era w n) q k floor
  FloorInvariant-world_after_era w n quiet counts q k floor inv = by_new (new_of w.memory (last_cell w)) where
    by_new : (o : Option (S × Option R)) → FloorInvariant object (option_map_or (λ new. record w { n = n; first = w.begun; memory = anchor_memory new.0 (seq_of w.memory (last_cell w)) }) o w) q k floor
    by_new None = inv
    by_new (Some new) =
        let idle : (p : ℕ) → w.call p ≡ None = idle_when_quiescent object w inv.0.0 inv.0.1 inv.0.2 quiet in (
          HelpingInvariant-anchor_memory object w n new.0 quiet counts inv.0,
          record { begun = inv.1.begun; linked = omega arith; waits = λ c e its. absurd (let f = idle q in cc) },
          λ c e its. absurd (let f = idle q in cc),
        )

  FloorInvariant-world_after : (w : WorldOf S I R) (e : Event I) → IsAccepted w e → CountsSteps w → (q k floor : ℕ) → FloorInvariant object w q k floor → FloorInvariant object (world_after object w e) q k floor
  FloorInvariant-world_after w (Call p i) ok counts q k floor inv = (
    HelpingInvariant-begun object w p i ok.0 ok.1 inv.0,
    HasFloor-begun w inv.0.0 inv.0.1 p i q k floor inv.1,
    IsAnnounced-begun w inv.0.0 inv.0.1 p i q k floor inv.1 inv.2,
  )
  FloorInvariant-world_after w (Step p) ok counts q k floor inv = by_call (w.call p) refl where
    by_call : (o : Option Pending) → w.call p ≡ o → FloorInvariant object (world_after_step object w p o) q k floor
    by_call None is = inv
    by_call (Some c) is = FloorInvariant-world_after_step w p c is counts inv.0 q k floor inv.1 (λ d pending its. inl (inv.2 d pending its))
  FloorInvariant-world_after w (Reshape n) ok counts q k floor inv = FloorInvariant-world_after_era w n ok.0 counts q k floor inv
  FloorInvariant-world_after w Trim ok counts q k floor inv = FloorInvariant-world_after_era w w.n ok counts q k floor inv

  pub FloorInvariant-world_after_all : (w : WorldOf S I R) (es : List (Event I)) → AreAccepted object w es → CountsSteps w → (q k floor : ℕ) → FloorInvariant object w q k floor
      → FloorInvariant object (world_after_all object w es) q k floor
  FloorInvariant-world_after_all w [] ok counts q k floor inv = inv
  FloorInvariant-world_after_all w (e ∷ es) ok counts q k floor inv =
      FloorInvariant-world_after_all (world_after object w e) es ok.1 (CountsSteps-world_after object w e ok.0 (inv.0.0, inv.0.1, inv.0.2) counts) q k floor
      (FloorInvariant-world_after w e ok.0 counts q k floor inv)

  -- the step that announces a call
  pub FloorInvariant-announced : (w : WorldOf S I R) (p k : ℕ) → w.call p ≡ Some (record { mine = Of p k; stage = Announce }) → CountsSteps w → HelpingInvariant object w
      → FloorInvariant object (world_after_step object w p (Some (record { mine = Of p k; stage = Announce }))) p k (frontier w)
  FloorInvariant-announced w p k is counts inv =
      FloorInvariant-world_after_step w p (record { mine = Of p k; stage = Announce }) is counts inv p k (frontier w) (HasFloor-announced object w inv.0 inv.1 inv.2 inv.3 p k is) (λ c pending its. inr refl)
