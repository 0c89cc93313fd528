use Rattle.ready_objects.proofs.directory.Pairs.copy.Goals as goal

pub invariant_of-result : goal.invariant_of-result
invariant_of-result c = rw (c.in_ok-try_clone.ensures, c.in_ok-extend_from_slice.ensures.items, c.in_ok-pairs.ensures.items, c.deref.ensures.value) c.self.invariant

pub returns : goal.returns
returns c = rw (c.in_ok-try_clone.ensures, c.in_ok-extend_from_slice.ensures.items, c.in_ok-pairs.ensures.items, c.deref.ensures.value) c.self.view_is
