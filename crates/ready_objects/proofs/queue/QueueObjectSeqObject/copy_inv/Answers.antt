use Rattle.std.proofs.Common.{refl}
use Rattle.ready_objects.proofs.queue.QueueObjectSeqObject.copy_inv.Goals as goal

pub returns : goal.returns
returns c = refl
