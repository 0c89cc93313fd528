use Rattle.std.proofs.Common.{rules}
use Rattle.uni_script.proofs.summary.summary_of.Goals as goal

pub returns : goal.returns
returns g c = search rules
