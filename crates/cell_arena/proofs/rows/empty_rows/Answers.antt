use Rattle.std.proofs.Common.{◌∷◌, [], length-append, arith}
use Rattle.cell_arena.proofs.Lists.{AreEmpty-append}
use Rattle.cell_arena.proofs.rows.empty_rows.Goals as goal

pub loop-preserved : goal.loop-preserved
loop-preserved g c =
    rw (c.in_ok-push.ensures.items, c.new.ensures)
    (omega (arith, c.loop.invariant.0, length-append c.loop.rows.items ([] ∷ [])), AreEmpty-append c.loop.rows.items c.loop.invariant.1)
