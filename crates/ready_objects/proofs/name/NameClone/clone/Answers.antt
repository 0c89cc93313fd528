use Rattle.ready_objects.proofs.name.NameClone.clone.Goals as goal

pub invariant_of-result : goal.invariant_of-result
invariant_of-result c = c.self.invariant

pub returns : goal.returns
returns c = record { cases = c.self.view_is }
