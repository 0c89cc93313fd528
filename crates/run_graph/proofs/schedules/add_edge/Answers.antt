use Rattle.run_graph.proofs.Vocabulary.{IsPart, IsTold, plan_of, shown_at, subst, sym}
use Rattle.run_graph.proofs.AtHand.{AreAtHand-kept}
use Rattle.run_graph.proofs.Parts.{IsPart-edge}
use Rattle.run_graph.proofs.schedules.add_edge.Goals as goal

pub returns-clause-part : goal.returns-clause-part
returns-clause-part g c =
    let plan = plan_of (g.O.SeqObject.sequential c.args.plan.now.object) c.args.plan.now.processes c.args.plan.now.row c.args.plan.now.calls.items in
    subst (IsPart plan c.target_of.new.paths.items) (sym c.in_ok-push_one.ensures)
    (IsPart-edge plan c.args.graph.now.paths.items c.target_of.new.paths.items c.args.graph.now.targets.items c.args.i c.args.p c.in_ok-target.target
    c.requires.node c.requires.process c.requires.next c.in_ok-target.ensures.more c.requires.part c.in_ok-target.ensures.leads)

pub returns-clause-at_hand : goal.returns-clause-at_hand
returns-clause-at_hand g c =
    let plan = plan_of (g.O.SeqObject.sequential c.args.plan.now.object) c.args.plan.now.processes c.args.plan.now.row c.args.plan.now.calls.items in
    AreAtHand-kept c.args.plan.now.object plan c.target_of.new.paths.items c.unwrap_or.result c.target_of.new.world c.target_of.new.worlds.items c.keep_world.new.lists.items c.in_ok-keep_world.ensures
    (subst (λ j. IsTold c.args.plan.now.object plan.object.initial (shown_at plan c.target_of.new.paths.items j) c.target_of.new.world) (sym c.unwrap_or.ensures) c.in_ok-target.ensures.told) c.in_ok-target.ensures.at_hand
