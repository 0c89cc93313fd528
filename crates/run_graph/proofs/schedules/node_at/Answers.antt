use Rattle.run_graph.proofs.Vocabulary.{AreAtHand, IsMore, IsSome, Some, [], arith, plan_of, refl, shown_at, subst, sym, without_counts, world_of, ◌++◌, ◌∙◌, ◌∷◌, ◌≡◌}
use Rattle.run_graph.proofs.AtHand.{AreAtHand-grown}
use Rattle.run_graph.proofs.Parts.{IsMore-push, LeadsTo-push}
use Rattle.run_graph.proofs.schedules.node_at.Goals as goal

pub returns-clause-more : goal.returns-clause-more
returns-clause-more g c =
    let plan = plan_of (g.O.SeqObject.sequential c.args.plan.now.object) c.args.plan.now.processes c.args.plan.now.row c.args.plan.now.calls.items in
    subst (IsMore plan c.args.paths.now.items) (sym c.in_ok-push_one.ensures) (IsMore-push plan c.args.paths.now.items c.args.path (subst (λ o. IsSome o) (sym c.requires.told.world) refl))

pub returns-clause-at_hand : goal.returns-clause-at_hand
returns-clause-at_hand g c =
    let plan = plan_of (g.O.SeqObject.sequential c.args.plan.now.object) c.args.plan.now.processes c.args.plan.now.row c.args.plan.now.calls.items in
    subst (λ paths. AreAtHand c.args.plan.now.object plan paths c.push_one-2.new.list.items) (sym c.in_ok-push_one.ensures)
    (subst (AreAtHand c.args.plan.now.object plan (c.args.paths.now.items ++ c.args.path ∷ [])) (sym c.in_ok-push_one-2.ensures)
    (AreAtHand-grown c.args.plan.now.object plan c.args.paths.now.items c.args.path c.args.worlds.now.items c.new.result c.new.ensures.items c.requires.at_hand))

pub returns-clause-same : goal.returns-clause-same
returns-clause-same g c =
    let plan = plan_of (g.O.SeqObject.sequential c.args.plan.now.object) c.args.plan.now.processes c.args.plan.now.row c.args.plan.now.calls.items in
    let world = Some (without_counts (world_of c.args.world.now)) in
    subst (λ paths. shown_at plan paths c.len-j.result ≡ world) (sym c.in_ok-push_one.ensures)
    (subst (λ j. shown_at plan (c.args.paths.now.items ++ c.args.path ∷ []) j ≡ world) (omega (arith, c.args.paths.now.ok.0, c.len-j.ensures))
    (sym (LeadsTo-push plan c.args.paths.now.items c.args.path).world ∙ c.requires.told.world))
