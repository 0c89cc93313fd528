use Rattle.run_tell.proofs.Vocabulary.{cell, flat_map, map, take, ◌++◌, ◌≡◌}
use Rattle.run_tell.proofs.rows.push_row.Given as goal

-- the cells so far
abbrev pub invariant-loop-text : goal.invariant-loop-text
invariant-loop-text l = l.rows.items ≡ l.initial.rows.items ++ flat_map cell (map (λ text. text.now) (take l.text-index l.cells))
