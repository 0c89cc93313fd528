use Rattle.std.proofs.Common.{rules}
use Rattle.uni_core.proofs.world.World.processes.Goals as goal

pub returns : goal.returns
returns g c = search rules
