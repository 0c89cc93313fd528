use Rattle.std.proofs.Common.{rules}
use Rattle.unibench_run.proofs.request.request_in.Goals as goal

pub returns-in_ok-of-in-Some-random-default : goal.returns-in_ok-of-in-Some-random-default
returns-in_ok-of-in-Some-random-default c = search rules
