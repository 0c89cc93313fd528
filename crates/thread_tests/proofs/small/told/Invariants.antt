use Rattle.small_objects.specs.Typed.{IsTypedSeatOf}
use Rattle.thread_tests.proofs.small.told.Given as goal

abbrev pub invariant-loop-row : goal.invariant-loop-row
invariant-loop-row g l = IsTypedSeatOf g.C.Words.words g.R.Words.words l.shared l.seat
