use Rattle.run_graph.proofs.Vocabulary.{Anchor, None, Some, WorldOf, along, ap, drop, if◌then◌else◌, new_of, plan_of, sym, world_of, ◌+◌, ◌∙◌}
use Rattle.run_graph.proofs.Along.{along-none, along-taken, drop-past}
use Rattle.run_graph.proofs.replay.world_at.Goals as goal

pub loop-p-init : goal.loop-p-init
loop-p-init g c = record {
  object = c.in-Ok.ensures.fixed.0;
  anchor = ap (λ (w : WorldOf g.row.O-State.Denot g.row.O-Inv.Denot g.row.O-Resp.Denot). new_of w.memory Anchor) c.in-Ok.ensures.opened;
  left = ap (λ w. along (plan_of (g.O.SeqObject.sequential c.args.plan.now.object) c.args.plan.now.processes c.args.plan.now.row c.args.plan.now.calls.items) (Some w) c.args.path.now) c.in-Ok.ensures.opened;
}

pub loop-p-preserved : goal.loop-p-preserved
loop-p-preserved g c = record {
  object = c.in_ok-take_event.ensures.fixed.object ∙ c.loop-p.invariant.object;
  anchor = c.in_ok-take_event.ensures.anchor ∙ c.loop-p.invariant.anchor;
  left = along-taken g.O.SeqObject.sequential c.args.plan.now.object c.loop-p.world.object c.args.plan.now.processes (world_of c.loop-p.world).n c.args.plan.now.row c.args.plan.now.calls.items (world_of c.loop-p.world)
      (Some (world_of c.take_event.new.world)) _ c.args.path.now c.loop-p.p-index c.loop-p.invariant.object c.loop-p-test.true
      (c.in_ok-take_event.ensures.moved ∙ ap (λ b. if b then Some (world_of c.take_event.new.world) else None) c.if-not-branch.false) c.loop-p.invariant.left;
}

pub returns-then-not-branch-clause-world : goal.returns-then-not-branch-clause-world
returns-then-not-branch-clause-world g c =
    sym (along-taken g.O.SeqObject.sequential c.args.plan.now.object c.loop-p.world.object c.args.plan.now.processes (world_of c.loop-p.world).n c.args.plan.now.row c.args.plan.now.calls.items (world_of c.loop-p.world)
    None _ c.args.path.now c.loop-p.p-index c.loop-p.invariant.object c.loop-p-test.true
    (c.in_ok-take_event.ensures.moved ∙ ap (λ b. if b then Some (world_of c.take_event.new.world) else None) c.if-not-branch.true) c.loop-p.invariant.left)
    ∙ along-none (plan_of (g.O.SeqObject.sequential c.args.plan.now.object) c.args.plan.now.processes c.args.plan.now.row c.args.plan.now.calls.items) (drop (c.loop-p.p-index + 1) c.args.path.now)

pub returns-clause-world : goal.returns-clause-world
returns-clause-world g c =
    sym c.loop-p.invariant.left
    ∙ ap (along (plan_of (g.O.SeqObject.sequential c.args.plan.now.object) c.args.plan.now.processes c.args.plan.now.row c.args.plan.now.calls.items) (Some (world_of c.loop-p.world))) (drop-past c.args.path.now c.loop-p.p-index c.loop-p-test.false)
