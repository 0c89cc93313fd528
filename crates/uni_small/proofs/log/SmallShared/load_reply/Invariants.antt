use Rattle.uni_small.proofs.Vocabulary.{GoesBy, Last, take, ◌≡◌}
use Rattle.uni_small.proofs.log.SmallShared.load_reply.Given as goal

abbrev pub invariant-loop-k : goal.invariant-loop-k
invariant-loop-k g l =
    (l.seat.table_id ≡ l.fn.seat.table_id) × (l.seat.id ≡ l.fn.seat.id)
    × GoesBy l.fn.seat.me l.k (Last l.s (take l.k l.reply)) l.seat.me
