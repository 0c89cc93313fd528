use Rattle.uni_core.proofs.NextStep.{place_there_now}
use Rattle.uni_core.proofs.world.World.next_place.Goals as goal

pub returns-clause-there : goal.returns-clause-there
returns-clause-there g c = place_there_now _ _ _ c.self.view_is c.self.invariant c.args.p c.requires c.standing.result c.in-Some.call c.in-Some.is c.standing.ensures c.processes.result c.processes.ensures c.place.result c.place.ensures
