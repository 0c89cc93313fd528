use Rattle.run_tell.proofs.trace.push_frame.Goals as goal

pub returns-in-Call : goal.returns-in-Call
returns-in-Call c = rw c.in-Call.is c.push_begun.ensures
