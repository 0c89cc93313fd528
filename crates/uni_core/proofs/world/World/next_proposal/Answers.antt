use Rattle.uni_core.proofs.NextStep.{proposal_there_now}
use Rattle.uni_core.proofs.world.World.next_proposal.Goals as goal

pub returns-in-Some-clause-there : goal.returns-in-Some-clause-there
returns-in-Some-clause-there g c = proposal_there_now _ _ _ c.self.view_is c.self.invariant c.args.p c.requires c.standing.result c.in-Some.call c.in-Some.is c.standing.ensures c.proposed.result c.proposed.ensures
