use Rattle.uni_record.proofs.recorded.Recorded.take.Goals as goal

pub returns-in-Call : goal.returns-in-Call
returns-in-Call g c = record { takes = rw c.in-Call.is c.take_call.ensures.takes }

pub returns-in-Step : goal.returns-in-Step
returns-in-Step g c = record { takes = rw c.in-Step.is c.take_step.ensures.takes }

pub returns-in-Trim : goal.returns-in-Trim
returns-in-Trim g c = record { takes = rw c.in-Trim.is c.take_trim.ensures.takes }

pub returns-in-Reshape : goal.returns-in-Reshape
returns-in-Reshape g c = record { takes = rw c.in-Reshape.is c.take_reshape.ensures.takes }
