use Rattle.std.proofs.Common.{ap}
use Rattle.cell_arena.proofs.CellsIn.{IsWithin-cells_in, cells_in-inv}
use Rattle.cell_arena.proofs.columns.Columns.set_inv.Goals as goal

pub index_mut-requires : goal.index_mut-requires
index_mut-requires g c =
    rw c.self.inside.inv.ok.0 (IsWithin-cells_in _ c.self.invariant.0 c.args.at (rw (← c.self.view_is) at c.requires)).inv

pub returns : goal.returns
returns g c =
    rw (← c.self.view_is) (ap (λ cells. record { room = c.self.inside.room; cells = cells }) (cells_in-inv _ c.self.invariant.0 c.args.at (rw (← c.self.view_is) at c.requires) _))
