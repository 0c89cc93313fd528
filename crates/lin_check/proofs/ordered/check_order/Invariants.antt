use Rattle.lin_check.proofs.Vocabulary.{FailsFor, IsOrder, IsReached, IsReady, Some, drop, length, take, ◌≡◌}
use Rattle.lin_check.proofs.ordered.check_order.Given as goal

abbrev pub invariant-loop-place : goal.invariant-loop-place
invariant-loop-place g l = record {
  ready : IsReady l.history l.node;
  many : length l.node.slots.items ≡ l.n;
  reached : IsReached (g.O.SeqObject.sequential l.object) l.history l.node (take l.place-index l.order);
  sound : FailsFor (g.O.SeqObject.sequential l.object) l.history (Some (drop l.place-index l.order)) l.node.at l.node.slots.items l.node.state
      → ¬ (IsOrder (g.O.SeqObject.sequential l.object) l.history l.order);
}
