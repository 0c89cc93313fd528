use Rattle.run_layout.proofs.Vocabulary.{cell_shown, filter, links_outside, list_any, map, not, ◌++◌, ◌≡◌}
use Rattle.run_layout.proofs.choice.cells_in.Given as goal

-- the cells so far, and those of the rest
abbrev pub invariant-loop-cell : goal.invariant-loop-cell
invariant-loop-cell l = map cell_shown l.part.items ++ filter (λ cell. not (list_any (links_outside l.range cell) l.dots)) (map cell_shown l.cell-iterator.rest.items) ≡ filter (λ cell. not (list_any (links_outside l.range cell) l.dots)) (map cell_shown l.fn.cells.items)
