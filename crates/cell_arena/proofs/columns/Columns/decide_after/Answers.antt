use Rattle.cell_arena.proofs.Vocabulary.{ap, settled, sym, ◌∙◌}
use Rattle.cell_arena.proofs.CellsIn.{IsWithin-cells_in, after-read, cells_in-after}
use Rattle.cell_arena.proofs.columns.Columns.decide_after.Goals as goal

pub index_mut-after-requires : goal.index_mut-after-requires
index_mut-after-requires g c =
    rw c.self.inside.after.ok.0 (IsWithin-cells_in _ c.self.invariant.0 c.args.at (rw (← c.self.view_is) at c.requires)).after

pub returns-clause-answer : goal.returns-clause-answer
returns-clause-answer g c =
    let read = after-read _ c.self.invariant.0 c.args.at (rw (← c.self.view_is) at c.requires) c.index_mut-after.result.now c.index_mut-after.ensures.value in
    rw (← c.self.view_is) (c.decide.ensures.answer ∙ ap (λ o. settled o c.args.next) (sym read))

pub returns-clause-cell : goal.returns-clause-cell
returns-clause-cell g c =
    let read = after-read _ c.self.invariant.0 c.args.at (rw (← c.self.view_is) at c.requires) c.index_mut-after.result.now c.index_mut-after.ensures.value in
    rw (← c.self.view_is, read, c.decide.follows.holds-at-none) (ap (λ cells. record { room = c.self.inside.room; cells = cells }) (cells_in-after _ c.self.invariant.0 c.args.at (rw (← c.self.view_is) at c.requires) _))
