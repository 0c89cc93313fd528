use Rattle.std.proofs.Common.{rules}
use Rattle.unibench_run.proofs.threads.push_threads_fault.Goals as goal

pub returns : goal.returns
returns g = search rules
