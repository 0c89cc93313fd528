use Rattle.uni_shared.proofs.Vocabulary.{seats_of, ℕ, ◌<◌, ◌≡◌}
use Rattle.uni_shared.proofs.agreement.missing_seat.Given as goal

abbrev pub invariant-loop-p : goal.invariant-loop-p
invariant-loop-p g l = (q : ℕ) → q < l.p → seats_of q l.seats ≡ 1
