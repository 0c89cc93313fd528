use Rattle.uni_small.proofs.Vocabulary.{GoesBy, List, Reading, [], stage_of, take, ℕ, ◌++◌, ◌≡◌}
use Rattle.uni_small.proofs.log.SmallShared.copy_row.Given as goal

abbrev pub invariant-loop-i : goal.invariant-loop-i
invariant-loop-i g l =
    (l.seat.table_id ≡ l.fn.seat.table_id) × (l.seat.id ≡ l.fn.seat.id)
    × ((copy : List ℕ) → stage_of l.fn.seat.me ≡ Reading l.tries l.s copy []
    → GoesBy l.fn.seat.me l.i (Reading l.tries l.s (copy ++ take l.i l.row) []) l.seat.me)
