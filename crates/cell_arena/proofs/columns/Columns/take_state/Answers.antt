use Rattle.std.proofs.Common.{ap, refl}
use Rattle.cell_arena.proofs.CellsIn.{IsWithin-cells_in, new-read, cells_in-new}
use Rattle.cell_arena.proofs.columns.Columns.take_state.Goals as goal

pub index_mut-requires : goal.index_mut-requires
index_mut-requires g c =
    rw c.self.inside.state.ok.0 (IsWithin-cells_in _ c.self.invariant.0 c.args.at (rw (← c.self.view_is) at c.requires.within)).new

pub returns-clause-state : goal.returns-clause-state
returns-clause-state g c =
    let read = new-read _ c.self.invariant.0 c.args.at (rw (← c.self.view_is) at c.requires.within) c.index_mut.result.now c.index_mut.ensures.value in
    rw (← c.self.view_is, read, ← c.replace-settled.ensures.value, ← c.into_inner.ensures, c.unwrap-state.ensures) refl

pub returns-clause-cell : goal.returns-clause-cell
returns-clause-cell g c =
    rw (← c.self.view_is, c.replace-settled.ensures.after, c.new.ensures) (ap (λ cells. record { room = c.self.inside.room; cells = cells }) (cells_in-new _ c.self.invariant.0 c.args.at (rw (← c.self.view_is) at c.requires.within) _))
