use Rattle.std.proofs.Common.{◌-◌, ◌^◌, ◌≡◌, min, take}
use Rattle.program_object.specs.Faults.{most_in}
use Rattle.program_object.proofs.program.most_in.Given as goal

abbrev pub invariant-loop-instruction : goal.invariant-loop-instruction
invariant-loop-instruction l = l.sum ≡ min (most_in (take l.instruction-index l.instructions)) (2 ^ 64 - 1)
