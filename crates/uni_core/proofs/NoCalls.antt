-- The counts of a process that has begun no call stay 0.
use Rattle.uni_core.proofs.Vocabulary.{CountsNone, None, Option, Sequential, Some, WorldOf, anchor_memory, ap, arith, inl, inr, last_cell, number_cases, opened_world, option_map_or, refl, seq_of, world_after_call, world_after_era, world_after_step, ℕ, ◌+◌, ◌≡◌, ◌≤◌}
use Rattle.uni_model.specs.Stages.{Pending}

pub CountsNone-opened_world : {S : Type 0} (I R : Type 0) (n : ℕ) (s : S) (number : ℕ) → CountsNone {S = S} {I = I} {R = R} (opened_world n s number)
CountsNone-opened_world I R n s number p e = (refl, refl, refl)

module _ {S I R : Type 0} (w : WorldOf S I R) (none : CountsNone w) where
  pub CountsNone-world_after_call : (p : ℕ) (i : I) → CountsNone (world_after_call w p i)
  CountsNone-world_after_call p i q e = elim (number_cases q p) [
    | inl h ↦ let some : w.begun p + 1 ≡ 0 = rw h.1 at e in absurd (omega arith)
    | inr h ↦ rw h.1 (none q (rw h.1 at e))
  ]

  -- a process whose call is pending has begun one
  pub CountsNone-world_after_step : (object : Sequential S I R) (p : ℕ) (call : Pending) → 1 ≤ w.begun p → CountsNone (world_after_step object w p (Some call))
  CountsNone-world_after_step object p call some q e = elim (number_cases q p) [
    | inl h ↦ let same : w.begun q ≡ w.begun p = ap w.begun h.0 in absurd (omega arith)
    | inr h ↦ rw h.1 (none q e)
  ]

  pub CountsNone-world_after_era : (n : ℕ) → CountsNone (world_after_era w n)
  CountsNone-world_after_era n = by_new _ where
    by_new : (o : Option (S × Option R)) → CountsNone (option_map_or (λ (new : S × Option R). record w { n = n; first = w.begun; memory = anchor_memory new.0 (seq_of w.memory (last_cell w)) }) o w)
    by_new None = none
    by_new (Some new) = none
