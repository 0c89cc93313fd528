use Rattle.std.proofs.Common.{rules}
use Rattle.uni_script.proofs.statuses.tell.Goals as goal

pub returns-clause-prefix : goal.returns-clause-prefix
returns-clause-prefix g c = search rules

pub returns-clause-whole : goal.returns-clause-whole
returns-clause-whole g c = search rules
