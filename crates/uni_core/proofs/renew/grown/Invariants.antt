use Rattle.uni_core.proofs.Vocabulary.{length, new_local, slice_index_or, ℕ, ◌<◌, ◌≡◌, ◌≤◌}
use Rattle.uni_core.proofs.renew.grown.Given as goal

abbrev pub invariant-loop-p : goal.invariant-loop-p
invariant-loop-p l =
    (length l.all.items ≡ l.count)
    × ((q : ℕ) → q < l.p → slice_index_or l.all.items q new_local ≡ slice_index_or l.locals q new_local)
    × ((q : ℕ) → l.p ≤ q → slice_index_or l.all.items q new_local ≡ new_local)
