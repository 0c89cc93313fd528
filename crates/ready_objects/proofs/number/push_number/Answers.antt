use Rattle.std.proofs.Common.{rules}
use Rattle.ready_objects.proofs.number.push_number.Goals as goal

pub returns : goal.returns
returns g = search rules
