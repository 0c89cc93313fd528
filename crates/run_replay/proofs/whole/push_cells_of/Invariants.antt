use Rattle.run_replay.proofs.Vocabulary.{Of, fields_of, flat_map, held, held_shown, map, range_with_len, world_of, ◌++◌, ◌≡◌}
use Rattle.run_replay.proofs.whole.push_cells_of.Given as goal

-- the cells so far
abbrev pub invariant-loop-place : goal.invariant-loop-place
invariant-loop-place g l =
    map held_shown l.memory.items
    ≡ map held_shown l.initial.memory.items
    ++ map (held g.O.Spoken.language g.O.Spoken.state_text (world_of l.world).memory) (flat_map fields_of (map (Of l.process) (range_with_len ((world_of l.world).first l.process) l.place)))
