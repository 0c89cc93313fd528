use Rattle.run_graph.proofs.Vocabulary.{Anchor, None, Some, along, drop, new_of, plan_of, world_at, world_of, ◌≡◌}
use Rattle.run_graph.proofs.replay.world_at.Given as goal

abbrev pub invariant-loop-p : goal.invariant-loop-p
invariant-loop-p g l = record {
  object : l.world.object ≡ l.plan.object;
  anchor : new_of (world_of l.world).memory Anchor ≡ Some ((g.O.SeqObject.sequential l.plan.object).initial, None);
  left : along (plan_of (g.O.SeqObject.sequential l.plan.object) l.plan.processes l.plan.row l.plan.calls.items) (Some (world_of l.world)) (drop l.p-index l.path)
      ≡ world_at (plan_of (g.O.SeqObject.sequential l.plan.object) l.plan.processes l.plan.row l.plan.calls.items) l.path;
}
