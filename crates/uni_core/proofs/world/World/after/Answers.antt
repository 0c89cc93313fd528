use Rattle.std.proofs.Common.{rules}
use Rattle.uni_core.proofs.Reading.{linked_there}
use Rattle.uni_core.proofs.world.World.after.Goals as goal

pub returns-clause-there : goal.returns-clause-there
returns-clause-there g c = linked_there _ _ _ c.self.view_is c.self.invariant c.shape.ensures.few.0 _ c.after.result c.after.ensures

pub returns-clause-link : goal.returns-clause-link
returns-clause-link g c = search rules
