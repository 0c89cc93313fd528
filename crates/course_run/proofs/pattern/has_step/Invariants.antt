use Rattle.std.proofs.Common.{◌≡◌, drop}
use Rattle.ready_objects.specs.Words.{bytes_of}
use Rattle.course_run.specs.Goals.{has_step}
use Rattle.course_run.proofs.pattern.has_step.Given as goal

-- no line so far is like the pattern
abbrev pub invariant-loop-line : goal.invariant-loop-line
invariant-loop-line l = has_step l.pattern (bytes_of (drop l.line-index l.steps)) ≡ has_step l.pattern (bytes_of l.steps)
