use Rattle.uni_core.proofs.NextStep.{can_step_now, changes_now}
use Rattle.uni_core.proofs.world.World.next_changes.Goals as goal

pub changes-requires-clause-step : goal.changes-requires-clause-step
changes-requires-clause-step g c = can_step_now _ _ _ c.self.view_is c.self.invariant c.args.p c.requires c.standing.result c.in-Some.call c.in-Some.is c.standing.ensures

pub returns-in-Some : goal.returns-in-Some
returns-in-Some g c = changes_now _ _ _ c.self.view_is c.self.invariant c.args.p c.requires c.standing.result c.in-Some.call c.in-Some.is c.standing.ensures g.O.SeqObject.sequential c.changes.result c.changes.ensures
