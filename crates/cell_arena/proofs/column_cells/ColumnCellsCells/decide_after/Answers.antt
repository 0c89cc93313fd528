use Rattle.cell_arena.proofs.Vocabulary.{refl, with_after}
use Rattle.cell_arena.proofs.FlatArena.{ChangesOnly-by_column, IsFlat-set}
use Rattle.cell_arena.proofs.column_cells.ColumnCellsCells.decide_after.Goals as goal

pub returns-clause-cell : goal.returns-clause-cell
returns-clause-cell g c =
    rw (← c.self.view_is, c.decide_after.ensures.cell, c.index.ensures)
    (ChangesOnly-by_column (with_after c.args.next) (λ _. refl) c.self.inside.columns.cells c.args.id (rw (← c.self.view_is) at c.requires))

pub invariant_of-self : goal.invariant_of-self
invariant_of-self g c =
    rw (c.decide_after.ensures.cell, c.index.ensures)
    (IsFlat-set (record { row = c.self.inside.row; made = c.self.inside.made.items; columns = c.self.inside.columns }) c.self.invariant c.args.id _ (rw (← c.self.view_is) at c.requires) refl)
