use Rattle.std.proofs.Common.{below_more, refl}
use Rattle.uni_core.proofs.world.World.same_cells.Goals as goal

pub loop-p-preserved : goal.loop-p-preserved
loop-p-preserved g c =
    let same = c.if-not-same_row.ensures in
    record {
      counts = below_more _ _ c.loop-p.invariant.counts (same.count refl);
      cells = below_more _ _ c.loop-p.invariant.cells (same.cells refl);
    }
