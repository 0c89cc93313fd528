use Rattle.std.proofs.Common.{◌≡◌, ◌≤◌, ◌<◌, ◌⊎◌, ℕ, slice_index}
use Rattle.uni_small.proofs.touched.copy_between.Given as goal

abbrev pub invariant-loop-i : goal.invariant-loop-i
invariant-loop-i l =
    ((j : ℕ) → l.first ≤ j → j < l.i → slice_index l.to j ≡ slice_index l.from j)
    × ((j : ℕ) → (j < l.first) ⊎ (l.end ≤ j) → slice_index l.to j ≡ slice_index l.fn.to j)
