use Rattle.std.proofs.Common.{◌≡◌, drop, length}
use Rattle.program_object.specs.Faults.{first_flaw}
use Rattle.program_object.proofs.program.first_flaw.Given as goal

abbrev pub invariant-loop-place : goal.invariant-loop-place
invariant-loop-place l =
    first_flaw l.widths (length l.instructions) l.place (drop l.place l.instructions)
    ≡ first_flaw l.widths (length l.instructions) 0 l.instructions
