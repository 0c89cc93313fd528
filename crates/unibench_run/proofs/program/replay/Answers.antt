use Rattle.std.proofs.Common.{rules}
use Rattle.unibench_run.proofs.program.replay.Goals as goal

pub returns-in-Ok-clause-run : goal.returns-in-Ok-clause-run
returns-in-Ok-clause-run g c = record { replayed = λ e. c.in-Ok.ensures.replayed; bad = λ e. cc; read = λ e. cc; part = search rules }
