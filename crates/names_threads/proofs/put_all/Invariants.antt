use Rattle.uni_any.specs.Seats.{IsSeatOf}
use Rattle.names_threads.proofs.put_all.Given as goal

abbrev pub invariant-loop-number : goal.invariant-loop-number
invariant-loop-number l = IsSeatOf l.map l.seat
