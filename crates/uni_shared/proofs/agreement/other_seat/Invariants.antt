use Rattle.uni_shared.proofs.Vocabulary.{All, None, take, ◌<◌, ◌≡◌}
use Rattle.uni_shared.proofs.Closing.{IsLeastOther}
use Rattle.uni_shared.proofs.agreement.other_seat.Given as goal

abbrev pub invariant-loop-seat : goal.invariant-loop-seat
invariant-loop-seat g l = (l.least ≡ None → All (λ s. s.process < l.n) (take l.seat-index l.seats)) × IsLeastOther l.n (take l.seat-index l.seats) l.least
