use Rattle.std.proofs.Common.{rules}
use Rattle.unibench_run.proofs.program.random.Goals as goal

pub returns-in-Ok-clause-run : goal.returns-in-Ok-clause-run
returns-in-Ok-clause-run g c = search rules

pub returns-in-Err-clause-run : goal.returns-in-Err-clause-run
returns-in-Err-clause-run g c = search rules
