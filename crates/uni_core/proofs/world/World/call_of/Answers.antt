use Rattle.std.proofs.Common.{rules}
use Rattle.uni_core.proofs.world.World.call_of.Goals as goal

pub first-requires : goal.first-requires
first-requires g c = search rules

pub returns-in_default : goal.returns-in_default
returns-in_default g c = search rules
