use Rattle.cell_arena.proofs.Vocabulary.{Some, ap, refl, sym, with_new, ◌∙◌}
use Rattle.cell_arena.proofs.ArenaOf.{ChangesOnly-by_cell, made_of-with_cell}
use Rattle.cell_arena.proofs.rows.CellRows.settle.Goals as goal

pub returns-clause-cell : goal.returns-clause-cell
returns-clause-cell g c =
    ChangesOnly-by_cell (with_new c.args.new) c.args.self.now c.cell_mut-cell.ensures.shape c.args.id _ _
    (c.cell_mut-cell.ensures.stored ∙ ap Some (sym c.cell.view_is)) (rw c.decide.follows.holds-at-none refl)

pub returns-clause-made : goal.returns-clause-made
returns-clause-made g c p =
    made_of-with_cell c.args.self.now c.args.id _ _ c.cell_mut-cell.ensures.stored p
