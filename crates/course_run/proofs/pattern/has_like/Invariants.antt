use Rattle.std.proofs.Common.{◌≡◌, drop}
use Rattle.ready_objects.specs.Words.{bytes_of}
use Rattle.course_run.specs.Goals.{has_like}
use Rattle.course_run.proofs.pattern.has_like.Given as goal

-- no line so far is like the pattern
abbrev pub invariant-loop-line : goal.invariant-loop-line
invariant-loop-line l = has_like l.pattern (bytes_of (drop l.line-index l.lines)) ≡ has_like l.pattern (bytes_of l.lines)
