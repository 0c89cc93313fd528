use Rattle.run_replay.proofs.Vocabulary.{Anchor, Announced, HeadOf, ap, arith, cells_below, cells_of, fields_of, flat_map, held, held_shown, map, range_with_len, world_of, ◌++◌, ◌∙◌, ◌≡◌}
use Rattle.run_replay.proofs.Telling.{place_more, row_more, whole_is}
use Rattle.run_replay.proofs.whole.whole_memory.Goals as goal

pub loop-process-2-preserved : goal.loop-process-2-preserved
loop-process-2-preserved g c =
    let h = held g.O.Spoken.language g.O.Spoken.state_text (world_of c.args.world.now).memory in
    rw (c.in_ok-push_held-2.ensures, c.in_ok-entry-2.ensures, c.loop-process-2.invariant) (place_more h (map held_shown c.loop-process.memory.items) HeadOf c.loop-process-2.process)

pub loop-process-3-preserved : goal.loop-process-3-preserved
loop-process-3-preserved g c =
    let w = world_of c.args.world.now in
    let h = held g.O.Spoken.language g.O.Spoken.state_text w.memory in
    c.in_ok-push_cells_of.ensures ∙ ap (λ l. l ++ map h (flat_map fields_of (cells_of w c.loop-process-3.process))) c.loop-process-3.invariant
    ∙ row_more h (map held_shown c.push_cell.new.memory.items) fields_of (cells_of w) c.loop-process-3.process

pub returns : goal.returns
returns g c =
    let w = world_of c.args.world.now in
    let first : c.loop-process.process ≡ w.n = omega arith in
    let second : c.loop-process-2.process ≡ w.n = omega arith in
    let third : c.loop-process-3.process ≡ w.n = omega arith in
    let processes = range_with_len 0 w.n in
    rw (c.loop-process-3.invariant, c.in_ok-push_cell.ensures, c.loop-process-2.invariant, c.loop-process.invariant, c.new-memory.ensures.items, c.anchor.ensures, third, second, first)
    (whole_is (held g.O.Spoken.language g.O.Spoken.state_text w.memory) (map Announced processes) (map HeadOf processes) (fields_of Anchor) (flat_map fields_of (cells_below w w.n)))
