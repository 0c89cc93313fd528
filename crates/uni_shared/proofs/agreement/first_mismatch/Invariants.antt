use Rattle.uni_shared.proofs.Vocabulary.{All, SeatAgrees, ℕ, ◌<◌, ◌≡◌}
use Rattle.uni_shared.proofs.agreement.first_mismatch.Given as goal

abbrev pub invariant-loop-p : goal.invariant-loop-p
invariant-loop-p g l = (q : ℕ) → q < l.p → All (λ s. s.process ≡ q → SeatAgrees g.O.SeqObject.sequential l.recorded s) l.seats
