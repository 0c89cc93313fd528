use Rattle.std.proofs.Common.{rules}
use Rattle.uni_words.proofs.log.WordLog.open.Goals as goal

pub returns-then-k-lt1-clause-row : goal.returns-then-k-lt1-clause-row
returns-then-k-lt1-clause-row g c = search rules
