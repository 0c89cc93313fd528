use Rattle.run_graph.proofs.Vocabulary.{None, Some, [], ap, if◌then◌else◌, plan_of, shown, sym, world_of, ◌++◌, ◌∙◌, ◌∷◌}
use Rattle.run_graph.proofs.AtHand.{shown-taken}
use Rattle.run_graph.proofs.Parts.{path_of-read}
use Rattle.run_graph.proofs.schedules.target_of.Goals as goal

pub returns-then-not-branch-clause-leads : goal.returns-then-not-branch-clause-leads
returns-then-not-branch-clause-leads g c = record {
  node = tt;
  world = shown-taken g.O.SeqObject.sequential c.args.plan.now.object c.args.plan.now.processes (world_of c.args.world.now).n c.args.plan.now.row c.args.plan.now.calls.items c.args.paths.now.items c.args.i c.args.p c.args.world.now None
      c.requires.told (c.in_ok-take_event.ensures.moved ∙ ap (λ b. if b then Some (world_of c.take_event.new.world) else None) c.if-not-branch.true);
}

pub node_at-requires-clause-told : goal.node_at-requires-clause-told
node_at-requires-clause-told g c = record {
  object = c.in_ok-take_event.ensures.fixed.object ∙ c.requires.told.object;
  anchor = c.in_ok-take_event.ensures.anchor ∙ c.requires.told.anchor;
  world = ap (shown (plan_of (g.O.SeqObject.sequential c.args.plan.now.object) c.args.plan.now.processes c.args.plan.now.row c.args.plan.now.calls.items))
      (c.in_ok-path.ensures ∙ ap (λ path. path ++ c.args.p ∷ []) (c.deref.ensures.value ∙ sym (path_of-read c.args.paths.now.items c.args.i c.index.result.now c.requires.node c.index.ensures)))
      ∙ shown-taken g.O.SeqObject.sequential c.args.plan.now.object c.args.plan.now.processes (world_of c.args.world.now).n c.args.plan.now.row c.args.plan.now.calls.items c.args.paths.now.items c.args.i c.args.p c.args.world.now (Some (world_of c.take_event.new.world))
      c.requires.told (c.in_ok-take_event.ensures.moved ∙ ap (λ b. if b then Some (world_of c.take_event.new.world) else None) c.if-not-branch.false);
}

pub returns-clause-leads : goal.returns-clause-leads
returns-clause-leads g c = record {
  node = c.in_ok-j.ensures.node;
  world = shown-taken g.O.SeqObject.sequential c.args.plan.now.object c.args.plan.now.processes (world_of c.args.world.now).n c.args.plan.now.row c.args.plan.now.calls.items c.args.paths.now.items c.args.i c.args.p c.args.world.now (Some (world_of c.take_event.new.world))
      c.requires.told (c.in_ok-take_event.ensures.moved ∙ ap (λ b. if b then Some (world_of c.take_event.new.world) else None) c.if-not-branch.false)
      ∙ sym c.in_ok-j.ensures.same;
}
