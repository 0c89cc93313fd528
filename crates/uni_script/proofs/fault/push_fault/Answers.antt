use Rattle.std.proofs.Common.{rules}
use Rattle.uni_script.proofs.fault.push_fault.Goals as goal

pub returns : goal.returns
returns g = search rules
