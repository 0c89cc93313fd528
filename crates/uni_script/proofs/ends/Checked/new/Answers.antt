use Rattle.std.proofs.Common.{refl}
use Rattle.uni_script.proofs.ends.Checked.new.Goals as goal

pub returns-clause-failed : goal.returns-clause-failed
returns-clause-failed g c = refl
