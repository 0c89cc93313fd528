use Rattle.uni_small.specs.Belongs.{IsSeatOf}
use Rattle.thread_tests.proofs.reads.reads.Given as goal

abbrev pub invariant-loop : goal.invariant-loop
invariant-loop l = IsSeatOf l.shared l.seat
