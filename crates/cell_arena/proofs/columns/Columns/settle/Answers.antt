use Rattle.std.proofs.Common.{ap}
use Rattle.cell_arena.proofs.CellsIn.{IsWithin-cells_in, new-read, cells_in-new}
use Rattle.cell_arena.proofs.columns.Columns.settle.Goals as goal

pub index_mut-settle-requires : goal.index_mut-settle-requires
index_mut-settle-requires g c =
    rw c.self.inside.state.ok.0 (IsWithin-cells_in _ c.self.invariant.0 c.args.at (rw (← c.self.view_is) at c.requires)).new

pub returns : goal.returns
returns g c =
    let read = new-read _ c.self.invariant.0 c.args.at (rw (← c.self.view_is) at c.requires) c.index_mut-settle.result.now c.index_mut-settle.ensures.value in
    rw (← c.self.view_is, read, c.decide.follows.holds-at-none) (ap (λ cells. record { room = c.self.inside.room; cells = cells }) (cells_in-new _ c.self.invariant.0 c.args.at (rw (← c.self.view_is) at c.requires) _))
