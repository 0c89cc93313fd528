use Rattle.run_play.proofs.Vocabulary.{AreAtHand, IfOk-weaker, IsTold, ap, arith, edge_text, event_of, frame_of, frame_shown, frame_text, length, moved, option_and_then, option_map, option_map_or, plan_of, shown_at, subst, sym, world_of, ◌%◌, ◌/◌, ◌∙◌}
use Rattle.std.proofs.Common.{codes}
use Rattle.run_graph.proofs.AtHand.{AreAtHand-kept}
use Rattle.run_play.proofs.Telling.{edge_told, shown-target, target_below, OnOk-all}
use Rattle.run_play.proofs.edges.edge_text.Goals as goal

pub returns-in_default-2-clause-at_hand : goal.returns-in_default-2-clause-at_hand
returns-in_default-2-clause-at_hand g c =
    let plan = plan_of (g.O.SeqObject.sequential c.args.plan.now.object) c.args.plan.now.processes c.args.plan.now.row c.args.plan.now.calls.items in
    OnOk-all _ _ (subst (λ paths. AreAtHand c.args.plan.now.object plan paths c.take_world.new.worlds.items) c.deref.ensures.value c.in-Ok.ensures.at_hand)

pub returns-in_default-2-clause-text : goal.returns-in_default-2-clause-text
returns-in_default-2-clause-text g c =
    let plan = plan_of (g.O.SeqObject.sequential c.args.plan.now.object) c.args.plan.now.processes c.args.plan.now.row c.args.plan.now.calls.items in
    let w = world_of c.in-Ok.world in
    let told = subst (λ paths. IsTold c.args.plan.now.object plan.object.initial (shown_at plan paths (c.args.k / c.args.plan.now.processes)) c.in-Ok.world) c.deref.ensures.value c.in-Ok.ensures.told in
    let edge =
    edge_told plan g.O.Spoken.language g.O.Spoken.state_text c.args.graph.now.paths.items c.args.k c.in-Some.to w c.in_ok-frame.field-0 told.world
    (c.in_ok-frame.ensures.frame ∙ ap (λ x. option_and_then (frame_of (g.O.SeqObject.sequential x) g.O.Spoken.language g.O.Spoken.state_text w) (event_of plan w (c.args.k % c.args.plan.now.processes))) told.object) in
    IfOk-weaker c.from_slice-in_default-2.result _ _
    (λ text is. is ∙ ap (λ o. option_map_or (λ f. frame_text c.in-Some.to (frame_shown f)) o (codes "null")) (sym c.in_default-2.is) ∙ sym edge
    ∙ ap (edge_text plan g.O.Spoken.language g.O.Spoken.state_text c.args.graph.now.paths.items c.args.k) (sym c.in-Some.is))
    c.from_slice-in_default-2.ensures.items

pub keep_world-requires : goal.keep_world-requires
keep_world-requires g c =
    let plan = plan_of (g.O.SeqObject.sequential c.args.plan.now.object) c.args.plan.now.processes c.args.plan.now.row c.args.plan.now.calls.items in
    let count = c.in-Ok.ensures.at_hand.count ∙ ap length c.deref.ensures.value in
    let below = target_below plan c.args.graph.now.paths.items c.args.graph.now.targets.items c.requires.graph c.args.k c.requires.place c.in-Some.to (sym c.requires.target ∙ c.in-Some.is) in
    omega arith

pub returns-in-Ok-keep_world-clause-at_hand : goal.returns-in-Ok-keep_world-clause-at_hand
returns-in-Ok-keep_world-clause-at_hand g c =
    let plan = plan_of (g.O.SeqObject.sequential c.args.plan.now.object) c.args.plan.now.processes c.args.plan.now.row c.args.plan.now.calls.items in
    let w = world_of c.in-Ok.world in
    let v = world_of c.frame_after.new.world in
    let told = subst (λ paths. IsTold c.args.plan.now.object plan.object.initial (shown_at plan paths (c.args.k / c.args.plan.now.processes)) c.in-Ok.world) c.deref.ensures.value c.in-Ok.ensures.told in
    OnOk-all _ _ (AreAtHand-kept c.args.plan.now.object plan c.args.graph.now.paths.items c.in-Some.to c.frame_after.new.world c.take_world.new.worlds.items c.keep_world.new.lists.items c.in-Ok-keep_world.ensures
    (record {
      object = c.frame_after.ensures.object ∙ told.object;
      anchor = c.in_ok-frame.ensures.anchor ∙ told.anchor;
      world = shown-target plan c.args.graph.now.paths.items c.args.graph.now.targets.items c.requires.graph c.args.k c.requires.place c.in-Some.to w v (sym c.requires.target ∙ c.in-Some.is) told.world
          (sym (ap (λ x. moved (plan_of (g.O.SeqObject.sequential x) w.n c.args.plan.now.row c.args.plan.now.calls.items) (c.args.k % c.args.plan.now.processes) w) told.object)
          ∙ c.in_ok-frame.ensures.moved ∙ ap (option_map (λ _. v)) c.in-Some-2.is);
    }) (subst (λ paths. AreAtHand c.args.plan.now.object plan paths c.take_world.new.worlds.items) c.deref.ensures.value c.in-Ok.ensures.at_hand))

pub returns-in-Ok-keep_world-clause-text : goal.returns-in-Ok-keep_world-clause-text
returns-in-Ok-keep_world-clause-text g c =
    let plan = plan_of (g.O.SeqObject.sequential c.args.plan.now.object) c.args.plan.now.processes c.args.plan.now.row c.args.plan.now.calls.items in
    let w = world_of c.in-Ok.world in
    let told = subst (λ paths. IsTold c.args.plan.now.object plan.object.initial (shown_at plan paths (c.args.k / c.args.plan.now.processes)) c.in-Ok.world) c.deref.ensures.value c.in-Ok.ensures.told in
    let edge =
    edge_told plan g.O.Spoken.language g.O.Spoken.state_text c.args.graph.now.paths.items c.args.k c.in-Some.to w c.in_ok-frame.field-0 told.world
    (c.in_ok-frame.ensures.frame ∙ ap (λ x. option_and_then (frame_of (g.O.SeqObject.sequential x) g.O.Spoken.language g.O.Spoken.state_text w) (event_of plan w (c.args.k % c.args.plan.now.processes))) told.object) in
    IfOk-weaker c.frame_text.result _ _
    (λ text is. is ∙ ap (λ o. option_map_or (λ f. frame_text c.in-Some.to (frame_shown f)) o (codes "null")) (sym c.in-Some-2.is) ∙ sym edge
    ∙ ap (edge_text plan g.O.Spoken.language g.O.Spoken.state_text c.args.graph.now.paths.items c.args.k) (sym c.in-Some.is))
    c.frame_text.ensures
