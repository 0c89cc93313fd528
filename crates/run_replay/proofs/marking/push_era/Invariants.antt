use Rattle.run_replay.proofs.Vocabulary.{boxes_from, cell_shown, drop, entry_shown, map, world_of, ◌++◌, ◌+◌, ◌≡◌}
use Rattle.run_replay.proofs.marking.push_era.Given as goal

-- the boxes so far, and those of the rest
abbrev pub invariant-loop-place : goal.invariant-loop-place
invariant-loop-place g l =
    map cell_shown l.cells.items ++ boxes_from g.O.Spoken.language g.O.Spoken.state_text (world_of l.world) (l.place + 1) (map entry_shown (drop l.place l.entry-items))
    ≡ boxes_from g.O.Spoken.language g.O.Spoken.state_text (world_of l.world) 1 (map entry_shown l.entry-items)
