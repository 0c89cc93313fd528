use Rattle.std.proofs.Common.{rules}
use Rattle.uni_script.proofs.ends.CheckedTextOut.write.Goals as goal

pub returns-in-Ok-clause-some : goal.returns-in-Ok-clause-some
returns-in-Ok-clause-some g c = search rules
