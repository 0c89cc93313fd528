use Rattle.uni_small.proofs.Vocabulary.{GoesBy, Idle, take, ◌≡◌}
use Rattle.uni_small.proofs.log.SmallShared.store_argument.Given as goal

abbrev pub invariant-loop-k : goal.invariant-loop-k
invariant-loop-k g l =
    (l.seat.table_id ≡ l.fn.seat.table_id) × (l.seat.id ≡ l.fn.seat.id)
    × GoesBy l.fn.seat.me l.k (Idle (take l.k l.invocation)) l.seat.me
