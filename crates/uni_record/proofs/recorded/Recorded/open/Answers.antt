use Rattle.uni_record.proofs.recorded.Recorded.open.Goals as goal

pub returns-clause-opened : goal.returns-clause-opened
returns-clause-opened g c = c.open_at.ensures.opened
