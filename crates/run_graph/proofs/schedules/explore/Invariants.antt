use Rattle.run_graph.proofs.Vocabulary.{AreAtHand, IsPart, length, plan_of, ◌*◌, ◌+◌, ◌<◌, ◌≡◌, ◌≤◌}
use Rattle.run_graph.proofs.schedules.explore.Given as goal

abbrev pub invariant-loop-i : goal.invariant-loop-i
invariant-loop-i g l = record {
  part : IsPart (plan_of (g.O.SeqObject.sequential l.plan.object) l.plan.processes l.plan.row l.plan.calls.items) l.graph.paths.items l.graph.targets.items;
  counted : length l.graph.targets.items ≡ l.i * l.plan.processes;
  few : length l.graph.paths.items ≤ l.limit;
  at_hand : AreAtHand l.plan.object (plan_of (g.O.SeqObject.sequential l.plan.object) l.plan.processes l.plan.row l.plan.calls.items) l.graph.paths.items l.worlds.items;
  within : l.i ≤ length l.graph.paths.items;
}

abbrev pub invariant-loop-p : goal.invariant-loop-p
invariant-loop-p g l = record {
  part : IsPart (plan_of (g.O.SeqObject.sequential l.plan.object) l.plan.processes l.plan.row l.plan.calls.items) l.graph.paths.items l.graph.targets.items;
  counted : length l.graph.targets.items ≡ l.i * l.plan.processes + l.p;
  few : length l.graph.paths.items ≤ l.limit;
  at_hand : AreAtHand l.plan.object (plan_of (g.O.SeqObject.sequential l.plan.object) l.plan.processes l.plan.row l.plan.calls.items) l.graph.paths.items l.worlds.items;
  node : l.i < length l.graph.paths.items;
}
