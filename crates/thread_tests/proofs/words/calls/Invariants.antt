use Rattle.uni_words.specs.Belongs.{IsSeatOf}
use Rattle.thread_tests.proofs.words.calls.Given as goal

abbrev pub invariant-loop : goal.invariant-loop
invariant-loop g l = IsSeatOf l.log l.seat
