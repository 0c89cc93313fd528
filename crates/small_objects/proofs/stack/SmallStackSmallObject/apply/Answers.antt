use Rattle.small_objects.proofs.Rows.{is_stack}
use Rattle.small_objects.proofs.stack.SmallStackSmallObject.apply.Goals as goal

pub step-requires : goal.step-requires
step-requires c = is_stack c.args.self.now.capacity c.args.state.now c.requires.reached
