use Rattle.cell_arena.proofs.Vocabulary.{Some, ap, refl, sym, with_after, ◌∙◌}
use Rattle.cell_arena.proofs.ArenaOf.{ChangesOnly-by_cell, made_of-with_cell}
use Rattle.cell_arena.proofs.row_cells.RowCellsCells.decide_after.Goals as goal

pub returns-clause-cell : goal.returns-clause-cell
returns-clause-cell g c =
    rw (← c.self.view_is)
    (ChangesOnly-by_cell (with_after c.args.next) c.self.inside.rows c.cell_mut-cell.ensures.shape c.args.id _ _
    (c.cell_mut-cell.ensures.stored ∙ ap Some (sym c.cell.view_is)) (rw c.decide.follows.holds-at-none refl))

pub returns-clause-made : goal.returns-clause-made
returns-clause-made g c p =
    rw (← c.self.view_is) (made_of-with_cell c.self.inside.rows c.args.id _ _ c.cell_mut-cell.ensures.stored p)
