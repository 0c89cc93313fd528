use Rattle.std.proofs.Common.{rules}
use Rattle.uni_core.proofs.world.World.frontier.Goals as goal

pub loop-p-preserved : goal.loop-p-preserved
loop-p-preserved g c = search rules
