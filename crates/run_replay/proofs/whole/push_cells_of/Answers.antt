use Rattle.run_replay.proofs.Vocabulary.{Of, ap, arith, fields_of, held, held_shown, map, name_in, refl, world_of, ◌++◌, ◌+◌, ◌-◌, ◌∙◌, ◌≡◌}
use Rattle.run_replay.proofs.Telling.{cell_more}
use Rattle.run_replay.proofs.whole.push_cells_of.Goals as goal

pub loop-place-preserved : goal.loop-place-preserved
loop-place-preserved g c =
    let w = world_of c.args.world.now in
    let h = held g.O.Spoken.language g.O.Spoken.state_text w.memory in
    let j = w.first c.args.process + c.loop-place.place in
    let nth : (c.begun.result - c.calls_in_era-calls.result) + c.loop-place.place ≡ j = omega arith in
    let name : name_in w c.in-Some.cell ≡ Of c.args.process j = c.in-Some.ensures.name ∙ ap (Of c.args.process) nth in
    c.in_ok-push_cell.ensures ∙ ap (λ x. map held_shown c.loop-place.memory.items ++ map h (fields_of x)) name ∙ ap (λ l. l ++ map h (fields_of (Of c.args.process j))) c.loop-place.invariant
    ∙ cell_more h (map held_shown c.args.memory.now.items) fields_of (Of c.args.process) (w.first c.args.process) c.loop-place.place j refl
