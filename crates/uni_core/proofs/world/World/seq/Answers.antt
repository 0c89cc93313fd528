use Rattle.std.proofs.Common.{rules}
use Rattle.uni_core.proofs.world.World.seq.Goals as goal

pub returns : goal.returns
returns g c = search rules
