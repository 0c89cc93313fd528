use Rattle.uni_shared.proofs.held.trim_held.Goals as goal

pub returns-clause-refused : goal.returns-clause-refused
returns-clause-refused g c = c.trim.ensures.refused

pub returns-clause-allowed : goal.returns-clause-allowed
returns-clause-allowed g c = c.trim.ensures.allowed

pub returns-clause-number : goal.returns-clause-number
returns-clause-number g c = c.trim.ensures.number

pub returns-clause-event : goal.returns-clause-event
returns-clause-event g c = c.trim.ensures.event

pub returns-clause-trimmed : goal.returns-clause-trimmed
returns-clause-trimmed g c = c.trim.ensures.trimmed

pub returns-clause-unchanged : goal.returns-clause-unchanged
returns-clause-unchanged g c = c.trim.ensures.unchanged
