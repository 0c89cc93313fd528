use Rattle.uni_any.specs.Seats.{IsSeatOf}
use Rattle.any_tests.proofs.threads.inserts.Given as goal

abbrev pub invariant-loop-i : goal.invariant-loop-i
invariant-loop-i l = IsSeatOf l.shared l.seat
