use Rattle.cell_arena.proofs.ArenaOf.{cell_of-is_some, cell_of-no_others, made_of-arena_of}
use Rattle.cell_arena.proofs.row_cells.RowCellsCells.shape.Goals as goal

pub returns-clause-made : goal.returns-clause-made
returns-clause-made g c p =
    rw (← c.self.view_is) (rw (made_of-arena_of c.self.inside.rows p) (c.shape.ensures.made p))

pub returns-clause-cells : goal.returns-clause-cells
returns-clause-cells g c p nth within =
    rw (← c.self.view_is) (cell_of-is_some c.self.inside.rows c.shape.ensures p nth (rw (← c.self.view_is) at within))

pub returns-clause-no_others : goal.returns-clause-no_others
returns-clause-no_others g c i there =
    rw (← c.self.view_is) (cell_of-no_others c.self.inside.rows c.shape.ensures i (rw (← c.self.view_is) at there))
