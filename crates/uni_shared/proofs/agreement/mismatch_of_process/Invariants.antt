use Rattle.uni_shared.proofs.Vocabulary.{All, SeatAgrees, take, ◌≡◌}
use Rattle.uni_shared.proofs.agreement.mismatch_of_process.Given as goal

abbrev pub invariant-loop-seat : goal.invariant-loop-seat
invariant-loop-seat g l = All (λ s. s.process ≡ l.p → SeatAgrees g.O.SeqObject.sequential l.recorded s) (take l.seat-index l.seats)
