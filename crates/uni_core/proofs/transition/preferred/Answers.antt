use Rattle.std.proofs.Common.{rules}
use Rattle.uni_core.proofs.transition.preferred.Goals as goal

pub returns-then-help_seq-eq0 : goal.returns-then-help_seq-eq0
returns-then-help_seq-eq0 g c = search rules

pub returns-else-help_seq-eq0 : goal.returns-else-help_seq-eq0
returns-else-help_seq-eq0 g c = search rules
