use Rattle.std.proofs.Common.{rules}
use Rattle.ready_objects.proofs.queue.QueueObjectSpoken.push_resp.Goals as goal

pub returns-in-Full : goal.returns-in-Full
returns-in-Full g = search rules
