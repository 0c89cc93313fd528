use Rattle.std.proofs.Common.{rules}
use Rattle.uni_core.proofs.world.World.calls_in_era.Goals as goal

pub returns : goal.returns
returns g c = search rules
