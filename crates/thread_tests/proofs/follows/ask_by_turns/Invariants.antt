use Rattle.uni_words.specs.Belongs.{IsSeatOf}
use Rattle.thread_tests.proofs.follows.ask_by_turns.Given as goal

abbrev pub invariant-loop-turn : goal.invariant-loop-turn
invariant-loop-turn g l = IsSeatOf l.log l.seat
