use Rattle.uni_small.specs.Belongs.{IsSeatOf}
use Rattle.thread_tests.proofs.threads.calls.Given as goal

abbrev pub invariant-loop-i : goal.invariant-loop-i
invariant-loop-i l = IsSeatOf l.shared l.seat
