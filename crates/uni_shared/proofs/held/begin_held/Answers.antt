use Rattle.uni_shared.proofs.Vocabulary.{rules, world_of}
use Rattle.uni_shared.proofs.Holding.{IsSome-place}
use Rattle.uni_shared.proofs.held.begin_held.Goals as goal

pub returns-clause-place : goal.returns-clause-place
returns-clause-place g c =
    IsSome-place (world_of c.args.recorded.now.world) (world_of c.begin.new.self.world) c.in_ok-call.call.process c.args.inv.now c.told.result (rw c.in_ok-call.ensures.id.0 c.in_ok-call.ensures.begun) c.told.ensures.tells

pub returns-clause-allowed : goal.returns-clause-allowed
returns-clause-allowed g c = c.in_ok-call.ensures.allowed

pub returns-clause-call : goal.returns-clause-call
returns-clause-call g c = rw c.told.ensures.call c.in_ok-call.ensures.id

pub returns-clause-tells : goal.returns-clause-tells
returns-clause-tells g c = rw (← c.in_ok-call.ensures.id.0) c.told.ensures.tells

pub returns-clause-event : goal.returns-clause-event
returns-clause-event g c = c.in_ok-call.ensures.event

pub returns-clause-begun : goal.returns-clause-begun
returns-clause-begun g c = c.in_ok-call.ensures.begun

pub returns-in_err-call-clause-refused : goal.returns-in_err-call-clause-refused
returns-in_err-call-clause-refused g c = search rules
