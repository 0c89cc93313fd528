use Rattle.run_picture.proofs.Vocabulary.{cell_shown, cells_from, drop, map, meaning, ◌++◌, ◌≡◌}
use Rattle.run_picture.proofs.parts.push_era.Given as goal

-- those so far, and those of the cells from here on
abbrev pub invariant-loop-cell : goal.invariant-loop-cell
invariant-loop-cell l =
    map meaning l.parts.items ++ cells_from l.dots l.before (map cell_shown (drop l.cell-index l.cell-items))
    ≡ map meaning l.initial.parts.items ++ cells_from l.dots l.initial.before (map cell_shown l.cell-items)
