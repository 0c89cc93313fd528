use Rattle.uni_core.proofs.world.World.take.Goals as goal

pub returns-in-Call-clause-takes : goal.returns-in-Call-clause-takes
returns-in-Call-clause-takes g c = rw c.in-Call.is c.take_call.ensures.takes

pub returns-in-Step-clause-takes : goal.returns-in-Step-clause-takes
returns-in-Step-clause-takes g c = rw c.in-Step.is c.take_step.ensures.takes
