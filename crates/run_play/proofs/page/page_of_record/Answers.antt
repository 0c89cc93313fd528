use Rattle.run_play.proofs.Vocabulary.{END, MIDDLE, START, [], ap, events_shown, graph_members, map, object_text, page_text, sym, ◌∙◌}
use Rattle.run_play.proofs.Paging.{IsPageOf-plan}
use Rattle.run_play.proofs.page.page_of_record.Goals as goal

pub returns-clause-page : goal.returns-clause-page
returns-clause-page g c =
    let plan = c.in_ok-plan.plan in
    let graph = c.in-Ok.graph in
    let run = c.args.recorded.now in
    IsPageOf-plan g.O.SeqObject.sequential g.O.Spoken.language g.O.Spoken.state_text c.args.name.now c.args.goal.now run.world.object plan.object run.processes plan.processes run.world.row plan.row run.first (events_shown run.events)
    plan.calls.items graph.paths.items graph.targets.items c.in_ok-edges.edges.items c.in_ok-page.page.items
    c.in_ok-plan.ensures.object c.in_ok-plan.ensures.processes c.in_ok-plan.ensures.row (sym c.first.ensures ∙ c.if-first-ne1.false) (sym c.has_one_era.ensures ∙ c.if-not-has_one_era.false)
    c.in_ok-plan.ensures.calls c.in-Ok.ensures.few c.in-Ok.ensures.graph c.in_ok-edges.ensures
    (c.in_ok-page.ensures ∙ ap (λ json. page_text START.now [] MIDDLE.now json END.now)
    (c.deref-2.ensures.value ∙ c.in_ok-json.ensures
    ∙ ap (λ edges. object_text (graph_members c.args.name.now plan.processes plan.row (g.O.Spoken.state_text (g.O.SeqObject.sequential plan.object).initial) c.args.goal.now (map (λ e. e.items) edges))) c.deref.ensures.value))
