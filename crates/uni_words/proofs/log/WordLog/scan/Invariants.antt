use Rattle.uni_words.proofs.Vocabulary.{GetsOn, GoesBy, IsAtStage, cell_at, head_at, scan_stage, ◌*◌, ◌≡◌}
use Rattle.uni_words.proofs.log.WordLog.scan.Given as goal

abbrev pub invariant-loop-q : goal.invariant-loop-q
invariant-loop-q g l =
    let log = l.fn.self in
    (l.seat.table_id ≡ l.fn.seat.table_id) × (l.seat.id ≡ l.fn.seat.id) × GetsOn log l.fn.at l.best
    × IsAtStage log.setup.n log.setup.k l.fn.at.process (cell_at log l.fn.at.cell) (scan_stage log.setup.n l.q (head_at log l.best) l.best.number) l.seat.me
    × GoesBy l.fn.seat.me l.seat.me (2 * l.q) 0
