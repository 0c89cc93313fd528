use Rattle.std.proofs.Common.{◌≡◌, drop}
use Rattle.ready_objects.specs.Words.{bytes_of}
use Rattle.course_run.specs.Goals.{place_from}
use Rattle.course_run.proofs.lines.place_of.Given as goal

-- no line so far names the call
abbrev pub invariant-loop-line : goal.invariant-loop-line
invariant-loop-line l =
    (place_from l.place l.call (bytes_of (drop l.line-index l.lines)) ≡ place_from 0 l.call (bytes_of l.lines)) × (l.place ≡ l.line-index)
