use Rattle.uni_words.specs.Belongs.{IsSeatOf}
use Rattle.max_register.proofs.write_all.Given as goal

abbrev pub invariant-loop-call : goal.invariant-loop-call
invariant-loop-call l = IsSeatOf l.register l.seat
