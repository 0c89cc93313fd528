use Rattle.run_graph.proofs.Vocabulary.{IfSome, IsTold, ap, plan_of, shown_at, subst, sym, world_at, ◌∙◌}
use Rattle.run_graph.proofs.AtHand.{AreAtHand-taken, IsTold-taken, IsTold-replayed}
use Rattle.run_graph.proofs.worlds.take_world.Goals as goal

pub returns-in-Some-clause-at_hand : goal.returns-in-Some-clause-at_hand
returns-in-Some-clause-at_hand g c =
    let plan = plan_of (g.O.SeqObject.sequential c.args.plan.now.object) c.args.plan.now.processes c.args.plan.now.row c.args.plan.now.calls.items in
    AreAtHand-taken c.args.plan.now.object plan c.args.paths.now c.args.i c.taken.result c.args.worlds.now.items c.taken.new.lists.items c.taken.ensures c.requires.at_hand

pub returns-in-Some-clause-told : goal.returns-in-Some-clause-told
returns-in-Some-clause-told g c =
    let plan = plan_of (g.O.SeqObject.sequential c.args.plan.now.object) c.args.plan.now.processes c.args.plan.now.row c.args.plan.now.calls.items in
    subst (λ o. IfSome o (IsTold c.args.plan.now.object plan.object.initial (shown_at plan c.args.paths.now c.args.i))) c.in-Some.is
    (IsTold-taken c.args.plan.now.object plan c.args.paths.now c.args.i c.taken.result c.args.worlds.now.items c.taken.new.lists.items c.taken.ensures c.requires.at_hand)

pub returns-in_err-world-clause-at_hand : goal.returns-in_err-world-clause-at_hand
returns-in_err-world-clause-at_hand g c =
    let plan = plan_of (g.O.SeqObject.sequential c.args.plan.now.object) c.args.plan.now.processes c.args.plan.now.row c.args.plan.now.calls.items in
    AreAtHand-taken c.args.plan.now.object plan c.args.paths.now c.args.i c.taken.result c.args.worlds.now.items c.taken.new.lists.items c.taken.ensures c.requires.at_hand

pub returns-in-Some-2-clause-at_hand : goal.returns-in-Some-2-clause-at_hand
returns-in-Some-2-clause-at_hand g c =
    let plan = plan_of (g.O.SeqObject.sequential c.args.plan.now.object) c.args.plan.now.processes c.args.plan.now.row c.args.plan.now.calls.items in
    AreAtHand-taken c.args.plan.now.object plan c.args.paths.now c.args.i c.taken.result c.args.worlds.now.items c.taken.new.lists.items c.taken.ensures c.requires.at_hand

pub returns-in-Some-2-clause-told : goal.returns-in-Some-2-clause-told
returns-in-Some-2-clause-told g c =
    let plan = plan_of (g.O.SeqObject.sequential c.args.plan.now.object) c.args.plan.now.processes c.args.plan.now.row c.args.plan.now.calls.items in
    IsTold-replayed c.args.plan.now.object plan c.args.paths.now c.args.i c.index-paths-i.result c.in_ok-world.field-0 c.in-Some-2.world c.in-Some-2.is c.requires.node c.index-paths-i.is
    (ap (world_at plan) (sym c.deref.ensures.value) ∙ c.in_ok-world.ensures.world) c.in_ok-world.ensures.object c.in_ok-world.ensures.anchor

pub returns-in-None-clause-at_hand : goal.returns-in-None-clause-at_hand
returns-in-None-clause-at_hand g c =
    let plan = plan_of (g.O.SeqObject.sequential c.args.plan.now.object) c.args.plan.now.processes c.args.plan.now.row c.args.plan.now.calls.items in
    AreAtHand-taken c.args.plan.now.object plan c.args.paths.now c.args.i c.taken.result c.args.worlds.now.items c.taken.new.lists.items c.taken.ensures c.requires.at_hand
