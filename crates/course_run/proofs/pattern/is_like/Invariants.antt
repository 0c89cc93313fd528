use Rattle.std.proofs.Common.{◌≡◌, length}
use Rattle.course_run.specs.Goals.{is_like}
use Rattle.course_run.proofs.pattern.is_like.Given as goal

-- what is left of the text is like what is left of the pattern, exactly where the whole is
abbrev pub invariant-loop-rest : goal.invariant-loop-rest
invariant-loop-rest l = is_like l.rest l.left ≡ is_like l.pattern l.text

abbrev pub decreases-loop-rest : goal.decreases-loop-rest
decreases-loop-rest l = length l.rest
