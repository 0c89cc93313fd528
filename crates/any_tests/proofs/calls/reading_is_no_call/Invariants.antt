use Rattle.uni_any.specs.Seats.{IsSeatOf}
use Rattle.any_tests.proofs.calls.reading_is_no_call.Given as goal

abbrev pub invariant-loop : goal.invariant-loop
invariant-loop g l = IsSeatOf l.shared l.second
