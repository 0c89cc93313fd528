use Rattle.uni_small.proofs.Resting.{leaves_no_trace}
use Rattle.uni_small.proofs.laws.last_load_leaves_no_trace.Goals as goal

pub returns : goal.returns
returns g c o sizes e = leaves_no_trace (g.O.SmallObject.meaning o).object sizes e
