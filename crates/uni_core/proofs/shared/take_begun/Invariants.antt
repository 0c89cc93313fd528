use Rattle.uni_core.proofs.Vocabulary.{length, new_local, slice_index_or, ℕ, ◌<◌, ◌≡◌}
use Rattle.uni_core.proofs.shared.take_begun.Given as goal

abbrev pub invariant-loop-p : goal.invariant-loop-p
invariant-loop-p l =
    (length l.first.items ≡ length l.locals)
    × ((q : ℕ) → q < l.p → slice_index_or l.first.items q 0 ≡ (slice_index_or l.locals q new_local).begun)
