use Rattle.std.proofs.Common.{◌≡◌, ◌≤◌, ◌+◌, drop}
use Rattle.ready_objects.specs.Words.{bytes_of}
use Rattle.course_run.specs.Goals.{said_in}
use Rattle.course_run.proofs.lines.said_in.Given as goal

-- what was counted, and what is left to count
abbrev pub invariant-loop-line : goal.invariant-loop-line
invariant-loop-line l = (l.said + said_in (bytes_of (drop l.line-index l.lines)) ≡ said_in (bytes_of l.lines)) × (l.said ≤ l.line-index)
