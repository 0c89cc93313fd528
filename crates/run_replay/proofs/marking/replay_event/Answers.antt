use Rattle.run_replay.proofs.marking.replay_event.Goals as goal

pub returns-in_ok-push-in-Call-clause-world : goal.returns-in_ok-push-in-Call-clause-world
returns-in_ok-push-in-Call-clause-world g c = rw c.in-Call.is c.in-Ok.ensures.begun

pub returns-in_ok-replay_step-in-Step-clause-marks : goal.returns-in_ok-replay_step-in-Step-clause-marks
returns-in_ok-replay_step-in-Step-clause-marks g c = rw c.in-Step.is (c.in_ok-replay_step-in-Step.ensures.marks c.args.from)
