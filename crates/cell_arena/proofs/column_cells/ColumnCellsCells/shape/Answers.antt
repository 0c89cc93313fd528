use Rattle.cell_arena.proofs.FlatArena.{flat-is_some, flat-no_others}
use Rattle.cell_arena.proofs.column_cells.ColumnCellsCells.shape.Goals as goal

pub returns-clause-cells : goal.returns-clause-cells
returns-clause-cells g c p nth within =
    rw (← c.self.view_is) (flat-is_some _ c.self.invariant p nth (rw (← c.self.view_is) at within))

pub returns-clause-no_others : goal.returns-clause-no_others
returns-clause-no_others g c i there =
    rw (← c.self.view_is) (flat-no_others _ c.self.invariant i (rw (← c.self.view_is) at there))
