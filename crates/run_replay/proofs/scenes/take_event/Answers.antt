use Rattle.run_replay.proofs.scenes.take_event.Goals as goal

pub returns-in-Ok-clause-world : goal.returns-in-Ok-clause-world
returns-in-Ok-clause-world g c = rw c.in-Call.is c.in-Ok.ensures.begun
