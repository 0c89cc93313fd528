use Rattle.uni_small.specs.Belongs.{IsSeatOf}
use Rattle.thread_tests.proofs.small.answers.Given as goal

abbrev pub invariant-loop-row : goal.invariant-loop-row
invariant-loop-row g l = IsSeatOf l.shared l.seat
