use Rattle.small_objects.proofs.Scripts.{are_small, is_script}
use Rattle.small_objects.proofs.script_queue.SmallScriptQueueSmallObject.apply.Goals as goal

pub enqueue-told-requires : goal.enqueue-told-requires
enqueue-told-requires c = is_script c.args.self.now.capacity c.args.state.now c.requires.reached

pub dequeue-told-requires : goal.dequeue-told-requires
dequeue-told-requires c =
    let room = c.args.self.now.capacity in
    let reached = c.requires.reached in
    record { ring = is_script room c.args.state.now reached; small = are_small room c.args.state.now reached 0 }
