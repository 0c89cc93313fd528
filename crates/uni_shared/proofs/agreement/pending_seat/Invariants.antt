use Rattle.uni_shared.proofs.Vocabulary.{All, IsQuiescent, None, take, world_of, ◌≡◌}
use Rattle.uni_shared.proofs.Closing.{IsLeastBusy}
use Rattle.uni_shared.proofs.agreement.pending_seat.Given as goal

abbrev pub invariant-loop-seat : goal.invariant-loop-seat
invariant-loop-seat g l =
    (l.least ≡ None → All (λ s. s.pending ≡ None) (take l.seat-index l.seats))
    × (l.least ≡ None → IsQuiescent (world_of l.recorded.world))
    × IsLeastBusy (world_of l.recorded.world) l.seats (take l.seat-index l.seats) l.least
