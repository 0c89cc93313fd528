use Rattle.std.proofs.Common.{arith}
use Rattle.std.proofs.lemmas.Grind.{common_steps}
use Rattle.ready_objects.proofs.queue.QueueState.dequeued.Goals as goal

pub returns-clause-response : goal.returns-clause-response
returns-clause-response c = grind (arith, common_steps)
