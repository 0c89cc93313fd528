use Rattle.cell_arena.proofs.CellsIn.{IsWithin-cells_in}
use Rattle.cell_arena.proofs.columns.Columns.seq.Goals as goal

pub index-requires : goal.index-requires
index-requires g c =
    rw c.self.inside.seq.ok.0 (IsWithin-cells_in _ c.self.invariant.0 c.args.at (rw (← c.self.view_is) at c.requires)).seq
