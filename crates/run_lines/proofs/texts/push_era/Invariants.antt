use Rattle.run_lines.proofs.Vocabulary.{cell_shown, cell_text, flat_map, map, take, ◌++◌, ◌≡◌}
use Rattle.run_lines.proofs.texts.push_era.Given as goal

-- the cells so far
abbrev pub invariant-loop-cell : goal.invariant-loop-cell
invariant-loop-cell l = l.text.items ≡ l.initial.text.items ++ flat_map (cell_text l.columns l.dots) (map cell_shown (take l.cell-index l.era.cells.items))
