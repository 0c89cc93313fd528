use Rattle.std.proofs.Common.{◌<◌, ◌^◌}
use Rattle.thread_tests.proofs.machines.answers.Given as goal

abbrev pub invariant-loop-row : goal.invariant-loop-row
invariant-loop-row g l = l.state < 2 ^ 31
