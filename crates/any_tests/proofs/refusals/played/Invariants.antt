use Rattle.uni_any.specs.Seats.{IsSeatOf}
use Rattle.any_tests.proofs.refusals.played.Given as goal

abbrev pub invariant-loop-at : goal.invariant-loop-at
invariant-loop-at g l = IsSeatOf l.shared l.first × IsSeatOf l.shared l.second
