use Rattle.uni_small.specs.Belongs.{IsSeatOf}
use Rattle.thread_tests.proofs.replays.calls.Given as goal

abbrev pub invariant-loop : goal.invariant-loop
invariant-loop l = IsSeatOf l.shared l.seat
