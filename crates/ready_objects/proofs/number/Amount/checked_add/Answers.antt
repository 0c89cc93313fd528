use Rattle.ready_objects.proofs.number.Amount.checked_add.Goals as goal

pub returns : goal.returns
returns c = rw (← c.self.view_is, ← c.other.view_is) c.new.ensures
