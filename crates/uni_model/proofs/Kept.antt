-- Every event that is accepted keeps the invariant, and in its era what is settled stays.
use Rattle.uni_model.proofs.Vocabulary.{Anchor, AreAccepted, Call, EndsNoEra, Event, Grows, Invariant, IsAccepted, IsNumbered, IsQuiescent, IsSome, IsSound, List, Memory, Name, None, Of, Option, Pending, Reshape, Sequential, Some, Step, Trim, WorldOf, [], after_of, anchor_memory, arith, cells_from, effect_of, era_calls, false, inl, inr, last_cell, last_of, memory_with, new_of, opened_world, option_map_or, place_of, refl, seq_of, set_at, subst, suc, true, turn_of, world_after, world_after_all, world_after_call, world_after_era, world_after_step, zero, ℕ, ◌+◌, ◌<◌, ◌∷◌, ◌≡◌, ◌≤◌}
use Rattle.uni_model.proofs.Moves.{IsSound-moved}
use Rattle.uni_model.proofs.Steps.{leads}
use Rattle.uni_model.proofs.Anchored.{alone, IsSound-anchor_memory}
use Rattle.uni_model.proofs.Begun.{IsSound-begun, Grows-begun}

module _ {S I R : Type 0} (object : Sequential S I R) where
  -- the facts of a step
  pub Invariant-world_after_step : (w : WorldOf S I R) (p : ℕ) (c : Pending) → w.call p ≡ Some c → Invariant object w
      → Invariant object (world_after_step object w p (Some c)) × Grows w.memory (world_after_step object w p (Some c)).memory
  Invariant-world_after_step w p c is inv =
      let moved = leads object w inv.0 inv.1 inv.2 p c.mine c.stage is c.stage (inv.2.stands p c is) in
      let place = place_of w.n p c.mine c.stage in
      let e = effect_of object w.n c.mine c.stage (w.memory place) w.memory in (
        (
          moved.0,
          moved.1,
          IsSound-moved object w inv.0 inv.1 inv.2 p c.mine c.stage is (memory_with w.memory place e.content) moved.0 moved.1 e.stage moved.3
              (set_at w.steps p (w.steps p + 1)) (set_at w.turns p (w.turns p + turn_of c.stage (w.memory place))),
        ),
        moved.3.grows,
      )

  pub Invariant-begun : (w : WorldOf S I R) (p : ℕ) (i : I) → p < w.n → w.call p ≡ None → Invariant object w
      → Invariant object (world_after_call w p i) × Grows w.memory (world_after_call w p i).memory
  Invariant-begun w p i inside idle inv =
      ((inv.0, inv.1, IsSound-begun object w inv.0 inv.1 inv.2 p i inside idle), Grows-begun object w inv.0 inv.1 inv.2 p i inside idle)

  pub Invariant-opened_world : (n : ℕ) (s : S) (number : ℕ) → 1 ≤ number → Invariant object (opened_world {S = S} {I = I} {R = R} n s number)
  Invariant-opened_world n s number positive = (alone number, number, IsSound-anchor_memory object s number positive n (λ p. None) (λ p. 0) (λ p. 0) (λ p. 0) (λ p. 0) (λ p. refl))

  -- the last cell is in the chain
  last_in_chain : (m : Memory S I R) (num : Name → ℕ) (last : ℕ) → IsNumbered m num last → (most : ℕ) (x : Name) → 1 ≤ num x → 1 ≤ num (last_of x (cells_from most m x))
  last_in_chain m num last numbered zero x h = h
  last_in_chain m num last numbered (suc most) x h =
      by_after (λ y linked. last_in_chain m num last numbered most y linked) (after_of m x) refl where
        by_after : ((y : Name) → 1 ≤ num y → 1 ≤ num (last_of y (cells_from most m y))) → (o : Option Name) → after_of m x ≡ o
            → 1 ≤ num (last_of x (option_map_or (λ y. y ∷ cells_from most m y) o []))
        by_after rest None e = h
        by_after rest (Some y) e = rest y (let link = (numbered.link x y e).1 in omega arith)

  -- where no call is pending, the cells of the chain are threaded
  pub threaded_when_quiescent : (w : WorldOf S I R) (num : Name → ℕ) (last : ℕ) → IsSound object w num last → IsQuiescent w → (x : Name) → 1 ≤ num x → 1 ≤ seq_of w.memory x
  threaded_when_quiescent w num last sound quiet Anchor h = subst (λ t. 1 ≤ t) sound.numbered.anchor h
  threaded_when_quiescent w num last sound quiet (Of p k) h = elim (sound.calls.threaded p k (sound.calls.linked p k h)) [
    | inl threaded ↦ threaded
    | inr pending ↦ absurd (let none = quiet p (sound.calls.process p pending.0 pending.1) in let some = pending.1 in cc)
  ]

  pub idle_when_quiescent : (w : WorldOf S I R) (num : Name → ℕ) (last : ℕ) → IsSound object w num last → IsQuiescent w → (p : ℕ) → w.call p ≡ None
  idle_when_quiescent w num last sound quiet p = by_call (w.call p) refl where
    by_call : (o : Option Pending) → w.call p ≡ o → w.call p ≡ None
    by_call None e = e
    by_call (Some c) e = quiet p (sound.calls.process p c e)

  pub last_cell_threaded : (w : WorldOf S I R) (num : Name → ℕ) (last : ℕ) → IsSound object w num last → IsQuiescent w → 1 ≤ seq_of w.memory (last_cell w)
  last_cell_threaded w num last sound quiet = threaded_when_quiescent w num last sound quiet (last_cell w)
      (last_in_chain w.memory num last sound.numbered (era_calls w) Anchor sound.numbered.first)

  pub Invariant-world_after_era : (w : WorldOf S I R) (n : ℕ) → IsQuiescent w → Invariant object w → Invariant object (world_after_era w n)
  Invariant-world_after_era w n quiet inv = by_new (new_of w.memory (last_cell w)) refl where
    by_new : (o : Option (S × Option R)) → new_of w.memory (last_cell w) ≡ o
        → Invariant object (option_map_or (λ new. record w { n = n; first = w.begun; memory = anchor_memory new.0 (seq_of w.memory (last_cell w)) }) o w)
    by_new None e = inv
    by_new (Some new) e = (
      alone (seq_of w.memory (last_cell w)),
      seq_of w.memory (last_cell w),
      IsSound-anchor_memory object new.0 (seq_of w.memory (last_cell w)) (last_cell_threaded w inv.0 inv.1 inv.2 quiet) n w.call w.begun w.among w.steps w.turns
          (idle_when_quiescent w inv.0 inv.1 inv.2 quiet),
    )

  pub Invariant-world_after : (w : WorldOf S I R) (e : Event I) → IsAccepted w e → Invariant object w → Invariant object (world_after object w e)
  Invariant-world_after w (Call p i) ok inv = (Invariant-begun w p i ok.0 ok.1 inv).0
  Invariant-world_after w (Step p) ok inv = by_call (w.call p) refl ok where
    by_call : (o : Option Pending) → w.call p ≡ o → IsSome o → Invariant object (world_after_step object w p o)
    by_call None is some = inv
    by_call (Some c) is some = (Invariant-world_after_step w p c is inv).0
  Invariant-world_after w Trim ok inv = Invariant-world_after_era w w.n ok inv
  Invariant-world_after w (Reshape n) ok inv = Invariant-world_after_era w n ok.0 inv

  pub Invariant-world_after_all : (w : WorldOf S I R) (es : List (Event I)) → AreAccepted object w es → Invariant object w → Invariant object (world_after_all object w es)
  Invariant-world_after_all w [] ok inv = inv
  Invariant-world_after_all w (e ∷ es) ok inv = Invariant-world_after_all (world_after object w e) es ok.1 (Invariant-world_after w e ok.0 inv)

  -- in its era, what is settled stays through an event
  pub Grows-world_after : (w : WorldOf S I R) (e : Event I) → Invariant object w → IsAccepted w e → EndsNoEra e → Grows w.memory (world_after object w e).memory
  Grows-world_after w (Call p i) inv ok other = (Invariant-begun w p i ok.0 ok.1 inv).1
  Grows-world_after w (Step p) inv ok other = by_call (w.call p) refl ok where
    by_call : (o : Option Pending) → w.call p ≡ o → IsSome o → Grows w.memory (world_after_step object w p o).memory
    by_call None is some = absurd (let e : false ≡ true = some in cc)
    by_call (Some call) is some = (Invariant-world_after_step w p call is inv).1
  Grows-world_after w Trim inv ok other = absurd other
  Grows-world_after w (Reshape n) inv ok other = absurd other
