use Rattle.run_replay.proofs.Vocabulary.{Announced, HeadOf, cells_below, fields_of, flat_map, held, held_shown, map, range_with_len, world_of, ◌++◌, ◌≡◌}
use Rattle.run_replay.proofs.whole.whole_memory.Given as goal

-- the entries of announce so far, those of head, and the cells of the processes so far
abbrev pub invariant-loop-process : goal.invariant-loop-process
invariant-loop-process g l =
    map held_shown l.memory.items ≡ map held_shown l.initial.memory.items
    ++ map (held g.O.Spoken.language g.O.Spoken.state_text (world_of l.world).memory) (map Announced (range_with_len 0 l.process))

abbrev pub invariant-loop-process-2 : goal.invariant-loop-process-2
invariant-loop-process-2 g l =
    map held_shown l.memory.items ≡ map held_shown l.initial.memory.items
    ++ map (held g.O.Spoken.language g.O.Spoken.state_text (world_of l.world).memory) (map HeadOf (range_with_len 0 l.process))

abbrev pub invariant-loop-process-3 : goal.invariant-loop-process-3
invariant-loop-process-3 g l =
    map held_shown l.memory.items ≡ map held_shown l.initial.memory.items
    ++ map (held g.O.Spoken.language g.O.Spoken.state_text (world_of l.world).memory) (flat_map fields_of (cells_below (world_of l.world) l.process))
