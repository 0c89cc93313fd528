use Rattle.std.proofs.Common.{rules}
use Rattle.uni_core.proofs.Reading.{before_there}
use Rattle.uni_core.proofs.world.World.before.Goals as goal

pub returns-clause-there : goal.returns-clause-there
returns-clause-there g c = before_there _ _ _ c.self.view_is c.self.invariant c.shape.ensures.few.0 _ c.before-2.result c.before-2.ensures

pub returns-clause-link : goal.returns-clause-link
returns-clause-link g c = search rules
