use Rattle.std.proofs.Common.{rules}
use Rattle.uni_core.proofs.stage.Stage.kind.Goals as goal

pub returns-in-WriteBefore : goal.returns-in-WriteBefore
returns-in-WriteBefore g c = search rules
