use Rattle.uni_small.proofs.Vocabulary.{slice_index, slots_items, ℕ, ◌+◌, ◌<◌, ◌≡◌}
use Rattle.uni_small.proofs.log.close.write_state.Given as goal

abbrev pub invariant-loop-i : goal.invariant-loop-i
invariant-loop-i l = (j : ℕ) → j < l.i → slice_index l.state j ≡ slice_index (slots_items l.fn.closed.words) (l.from + j)
