use Rattle.run_graph.proofs.Vocabulary.{IsTold, Some, ap, arith, length, plan_of, refl, shown_at, slice_get, slice_get_read, sym, world_at, ◌-◌, ◌∙◌}
use Rattle.run_graph.proofs.AtHand.{IsTold-at, IsTold-replayed}
use Rattle.run_graph.proofs.schedules.is_at.Goals as goal

-- the world at hand is told
told : (g : _) → (c : goal.In-Some-last g) → IsTold c.args.plan.now.object (g.O.SeqObject.sequential c.args.plan.now.object).initial
    (shown_at (plan_of (g.O.SeqObject.sequential c.args.plan.now.object) c.args.plan.now.processes c.args.plan.now.row c.args.plan.now.calls.items) c.args.paths.now c.args.j) c.in-Some-last.there.now
told g c =
    let plan = plan_of (g.O.SeqObject.sequential c.args.plan.now.object) c.args.plan.now.processes c.args.plan.now.row c.args.plan.now.calls.items in
    IsTold-at c.args.plan.now.object plan c.args.paths.now c.args.worlds.now c.args.j (length c.deref.result.now - 1) c.in-Some.here.now c.in-Some-last.there.now
    (slice_get_read c.args.worlds.now (length c.args.worlds.now) c.args.j c.in-Some.here.now refl (let count = c.requires.at_hand.count in let node = c.requires.node in omega arith) c.in-Some.ensures.lookup.1)
    (ap (λ xs. slice_get xs (length c.deref.result.now - 1)) (sym c.deref.ensures.value) ∙ sym c.in-Some-last.ensures.value) c.requires.at_hand

pub is_same-requires-clause-object : goal.is_same-requires-clause-object
is_same-requires-clause-object g c = c.requires.told.object ∙ sym (told g c).object

pub is_same-requires-clause-anchor : goal.is_same-requires-clause-anchor
is_same-requires-clause-anchor g c = c.requires.told.anchor ∙ sym (told g c).anchor

pub returns-in-Some-last : goal.returns-in-Some-last
returns-in-Some-last g c =
    let plan = plan_of (g.O.SeqObject.sequential c.args.plan.now.object) c.args.plan.now.processes c.args.plan.now.row c.args.plan.now.calls.items in
    let there =
    IsTold-at c.args.plan.now.object plan c.args.paths.now c.args.worlds.now c.args.j (length c.deref.result.now - 1) c.in-Some.here.now c.in-Some-last.there.now
    (slice_get_read c.args.worlds.now (length c.args.worlds.now) c.args.j c.in-Some.here.now refl (let count = c.requires.at_hand.count in let node = c.requires.node in omega arith) c.in-Some.ensures.lookup.1)
    (ap (λ xs. slice_get xs (length c.deref.result.now - 1)) (sym c.deref.ensures.value) ∙ sym c.in-Some-last.ensures.value) c.requires.at_hand in
    λ same. there.world ∙ ap Some (c.is_same.ensures same)

pub returns-in-Some-2 : goal.returns-in-Some-2
returns-in-Some-2 g c =
    let plan = plan_of (g.O.SeqObject.sequential c.args.plan.now.object) c.args.plan.now.processes c.args.plan.now.row c.args.plan.now.calls.items in
    let there =
    IsTold-replayed c.args.plan.now.object plan c.args.paths.now c.args.j c.index-paths-j.result c.in_ok-there.field-0 c.in-Some-2.there c.in-Some-2.is c.requires.node c.index-paths-j.is
    (ap (world_at plan) (sym c.deref-2.ensures.value) ∙ c.in_ok-there.ensures.world) c.in_ok-there.ensures.object c.in_ok-there.ensures.anchor in
    λ same. there.world ∙ ap Some (c.is_same-in-Some-2.ensures same)
