use Rattle.std.proofs.Common.{rules}
use Rattle.uni_record.proofs.eras.prepare_end.Goals as goal

pub returns-clause-log : goal.returns-clause-log
returns-clause-log g c = search rules
