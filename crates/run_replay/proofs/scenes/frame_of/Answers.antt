use Rattle.run_replay.proofs.Vocabulary.{Begins, Some, ap, world_of}
use Rattle.run_replay.proofs.Telling.{steps_told}
use Rattle.run_replay.proofs.scenes.frame_of.Goals as goal

pub returns-in_ok-begun_of-in-Call-clause-world : goal.returns-in_ok-begun_of-in-Call-clause-world
returns-in_ok-begun_of-in-Call-clause-world g c = rw c.in-Call.is c.in_ok-begun_of-in-Call.ensures.world

pub returns-in_ok-begun_of-in-Call-clause-frame : goal.returns-in_ok-begun_of-in-Call-clause-frame
returns-in_ok-begun_of-in-Call-clause-frame g c = rw c.in-Call.is (ap (λ b. Some (Begins b)) c.in_ok-begun_of-in-Call.ensures.begun)

pub returns-in_ok-step_of-in-Step-clause-frame : goal.returns-in_ok-step_of-in-Step-clause-frame
returns-in_ok-step_of-in-Step-clause-frame g c =
    rw c.in-Step.is (steps_told (g.O.SeqObject.sequential c.args.replay.now.object) g.O.Spoken.language g.O.Spoken.state_text _ _ ((world_of c.args.replay.now).call c.in-Step.process) c.in_ok-step_of-in-Step.ensures.step)
