use Rattle.ready_objects.proofs.number.AmountDisplay.fmt.Goals as goal

pub returns-clause-writes : goal.returns-clause-writes
returns-clause-writes g c = rw (← c.self.view_is) c.write.ensures.writes
