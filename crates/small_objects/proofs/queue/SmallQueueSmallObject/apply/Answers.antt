use Rattle.small_objects.proofs.Queues.{is_queue}
use Rattle.small_objects.proofs.queue.SmallQueueSmallObject.apply.Goals as goal

pub step-requires : goal.step-requires
step-requires c = is_queue c.args.self.now.capacity c.args.state.now c.requires.reached
