use Rattle.lin_check.proofs.Vocabulary.{Passes, length, ◌-◌, ◌≡◌, ◌≤◌}
use Rattle.lin_check.proofs.passing.advance.Given as goal

abbrev pub invariant-loop-node : goal.invariant-loop-node
invariant-loop-node g l = record {
  passes : Passes (g.O.SeqObject.sequential l.object) l.history l.fn.node l.node;
  bound : l.node.at ≤ length l.history;
  many : length l.node.slots.items ≡ length l.fn.node.slots.items;
}

abbrev pub decreases-loop-node : goal.decreases-loop-node
decreases-loop-node g l = length l.history - l.node.at
