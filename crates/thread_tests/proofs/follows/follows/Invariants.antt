use Rattle.uni_words.specs.Belongs.{IsSeatOf}
use Rattle.thread_tests.proofs.follows.follows.Given as goal

abbrev pub invariant-loop-row : goal.invariant-loop-row
invariant-loop-row g l = IsSeatOf l.log l.seat
