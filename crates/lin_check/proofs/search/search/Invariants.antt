use Rattle.lin_check.proofs.Vocabulary.{length}
use Rattle.lin_check.proofs.Searching.{IsSearch}
use Rattle.lin_check.proofs.search.search.Given as goal

abbrev pub invariant-loop : goal.invariant-loop
invariant-loop g l = IsSearch (g.O.SeqObject.sequential l.object) l.history (length l.fn.root.slots.items) l.stack.items l.node l.order.items l.next l.failed.nodes.items
