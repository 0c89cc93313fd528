use Rattle.uni_any.specs.Seats.{IsSeatOf}
use Rattle.stack_any.proofs.push_all.Given as goal

abbrev pub invariant-loop-value : goal.invariant-loop-value
invariant-loop-value l = IsSeatOf l.stack l.seat
