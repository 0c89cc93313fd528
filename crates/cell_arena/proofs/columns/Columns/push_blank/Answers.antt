use Rattle.std.proofs.Common.{◌∙◌, ap, sym, arith}
use Rattle.cell_arena.proofs.CellsIn.{AreEven-and_blank, cells_in-and_blank, filled-one, length-cells_in, pushed}
use Rattle.cell_arena.proofs.columns.Columns.push_blank.Goals as goal

pub invariant_of-self : goal.invariant_of-self
invariant_of-self g c =
    let even = c.self.invariant.0 in
    let short = rw (← c.self.view_is) at c.requires in
    let long = length-cells_in (record { inv = c.self.inside.inv.items; seq = c.self.inside.seq.items; before = c.self.inside.before.items; after = c.self.inside.after.items; new = c.self.inside.state.items }) in
    let inv = pushed _ _ _ _ c.push.ensures.items (c.push.ensures.succeeds (omega (arith, short, long, even.inv, c.self.inside.inv.ok.0, c.self.invariant.1.0))) in
    let seq = pushed _ _ _ _ c.push-2.ensures.items (c.push-2.ensures.succeeds (omega (arith, short, long, c.self.inside.seq.ok.0, c.self.invariant.1.1.0))) in
    let before = pushed _ _ _ _ c.push-3.ensures.items (c.push-3.ensures.succeeds (omega (arith, short, long, even.before, c.self.inside.before.ok.0, c.self.invariant.1.1.1.0))) in
    let after = pushed _ _ _ _ c.push-4.ensures.items (c.push-4.ensures.succeeds (omega (arith, short, long, even.after, c.self.inside.after.ok.0, c.self.invariant.1.1.1.1.0))) in
    let state = pushed _ _ _ _ c.push-5.ensures.items (c.push-5.ensures.succeeds (omega (arith, short, long, even.new, c.self.inside.state.ok.0, c.self.invariant.1.1.1.1.1))) in (
      rw (inv, seq, before, after, state, c.new.ensures, c.new-2.ensures) (AreEven-and_blank _ even),
      (omega (arith, c.self.invariant.1.0, c.push.ensures.capacity), (omega (arith, c.self.invariant.1.1.0, c.push-2.ensures.capacity), (omega (arith, c.self.invariant.1.1.1.0, c.push-3.ensures.capacity), (omega (arith, c.self.invariant.1.1.1.1.0, c.push-4.ensures.capacity), omega (arith, c.self.invariant.1.1.1.1.1, c.push-5.ensures.capacity))))),
    )

pub returns : goal.returns
returns g c =
    let even = c.self.invariant.0 in
    let short = rw (← c.self.view_is) at c.requires in
    let long = length-cells_in (record { inv = c.self.inside.inv.items; seq = c.self.inside.seq.items; before = c.self.inside.before.items; after = c.self.inside.after.items; new = c.self.inside.state.items }) in
    let inv = pushed _ _ _ _ c.push.ensures.items (c.push.ensures.succeeds (omega (arith, short, long, even.inv, c.self.inside.inv.ok.0, c.self.invariant.1.0))) in
    let seq = pushed _ _ _ _ c.push-2.ensures.items (c.push-2.ensures.succeeds (omega (arith, short, long, c.self.inside.seq.ok.0, c.self.invariant.1.1.0))) in
    let before = pushed _ _ _ _ c.push-3.ensures.items (c.push-3.ensures.succeeds (omega (arith, short, long, even.before, c.self.inside.before.ok.0, c.self.invariant.1.1.1.0))) in
    let after = pushed _ _ _ _ c.push-4.ensures.items (c.push-4.ensures.succeeds (omega (arith, short, long, even.after, c.self.inside.after.ok.0, c.self.invariant.1.1.1.1.0))) in
    let state = pushed _ _ _ _ c.push-5.ensures.items (c.push-5.ensures.succeeds (omega (arith, short, long, even.new, c.self.inside.state.ok.0, c.self.invariant.1.1.1.1.1))) in
    rw (← c.self.view_is, inv, seq, before, after, state, c.new.ensures, c.new-2.ensures)
    (ap (λ cells. record { room = c.self.inside.room; cells = cells }) (cells_in-and_blank _ even) ∙ filled-one _)
