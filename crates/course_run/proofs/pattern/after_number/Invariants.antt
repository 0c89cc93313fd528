use Rattle.std.proofs.Common.{◌≡◌, length}
use Rattle.course_run.specs.Goals.{after_number}
use Rattle.course_run.proofs.pattern.after_number.Given as goal

-- what follows the number is the same in what is left
abbrev pub invariant-loop-rest : goal.invariant-loop-rest
invariant-loop-rest l = after_number l.rest ≡ after_number l.line

abbrev pub decreases-loop-rest : goal.decreases-loop-rest
decreases-loop-rest l = length l.rest
