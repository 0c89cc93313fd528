use Rattle.std.proofs.Common.{◌≡◌, length}
use Rattle.program_object.specs.Machine.{after, begun, machine_of}
use Rattle.program_object.proofs.step.run.Given as goal

abbrev pub invariant-loop-taken : goal.invariant-loop-taken
invariant-loop-taken l =
    machine_of l.frame l.state l.reply ≡ after l.code l.invocation (begun l.fn.state (length l.fn.reply)) l.taken
