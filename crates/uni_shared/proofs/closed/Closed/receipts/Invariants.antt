use Rattle.uni_shared.proofs.Vocabulary.{seats_of, take, ◌≡◌}
use Rattle.uni_shared.proofs.closed.Closed.receipts.Given as goal

abbrev pub invariant-loop-seat : goal.invariant-loop-seat
invariant-loop-seat g l = seats_of l.p (take l.seat-index l.seat-items) ≡ 0
