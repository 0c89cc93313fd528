use Rattle.uni_small.proofs.Vocabulary.{IsLeft, local_of, slice_index, ℕ, ◌+◌, ◌<◌, ◌≡◌}
use Rattle.uni_small.proofs.log.SmallShared.reread_all.Given as goal

abbrev pub invariant-loop-i : goal.invariant-loop-i
invariant-loop-i g l =
    (l.seat.table_id ≡ l.fn.seat.table_id) × (l.seat.id ≡ l.fn.seat.id)
    × IsLeft l.fn.seat.me (record (local_of l.fn.seat.me) { steps = (local_of l.fn.seat.me).steps + l.i }) l.seat.me
    × ((j : ℕ) → j < l.i → slice_index l.held j ≡ slice_index (local_of l.fn.seat.me).held j)

abbrev pub invariant-loop-k : goal.invariant-loop-k
invariant-loop-k g l =
    (l.seat.table_id ≡ l.fn.seat.table_id) × (l.seat.id ≡ l.fn.seat.id)
    × IsLeft l.fn.seat.me (record (local_of l.fn.seat.me) { steps = (local_of l.fn.seat.me).steps + (l.words + l.k) }) l.seat.me
    × ((j : ℕ) → j < l.words + l.k → slice_index l.held j ≡ slice_index (local_of l.fn.seat.me).held j)
