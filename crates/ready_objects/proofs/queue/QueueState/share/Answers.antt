use Rattle.ready_objects.proofs.queue.QueueState.share.Goals as goal

pub invariant_of-result : goal.invariant_of-result
invariant_of-result c = rw c.in_ok-try_clone.ensures c.self.invariant

pub returns : goal.returns
returns c = rw c.in_ok-try_clone.ensures c.self.view_is
