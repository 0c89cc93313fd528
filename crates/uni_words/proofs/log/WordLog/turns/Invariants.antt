use Rattle.uni_words.proofs.Vocabulary.{GetsOn, GoesBy, IsAtStage, Test, cell_at, head_at, ◌*◌, ◌+◌, ◌≡◌, ◌≤◌}
use Rattle.uni_words.proofs.log.WordLog.turns.Given as goal

abbrev pub invariant-loop-turns : goal.invariant-loop-turns
invariant-loop-turns g l =
    let log = l.fn.self in
    (l.seat.table_id ≡ l.fn.seat.table_id) × (l.seat.id ≡ l.fn.seat.id) × GetsOn log l.fn.at l.at
    × IsAtStage log.setup.n log.setup.k l.fn.at.process (cell_at log l.fn.at.cell) (Test (head_at log l.at) l.at.number) l.seat.me
    × GoesBy l.fn.seat.me l.seat.me (10 * l.turns) l.turns × (l.turns ≤ log.setup.n + 1)
