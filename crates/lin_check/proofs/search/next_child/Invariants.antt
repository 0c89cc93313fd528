use Rattle.lin_check.proofs.Vocabulary.{AreTried}
use Rattle.lin_check.proofs.search.next_child.Given as goal

abbrev pub invariant-loop-j : goal.invariant-loop-j
invariant-loop-j g l = AreTried (g.O.SeqObject.sequential l.object) l.history l.node l.order l.j
