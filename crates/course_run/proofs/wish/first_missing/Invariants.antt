use Rattle.std.proofs.Common.{◌≡◌, ◌+◌, drop}
use Rattle.ready_objects.specs.Words.{bytes_of}
use Rattle.course_run.specs.Goals.{first_missing}
use Rattle.course_run.proofs.wish.first_missing.Given as goal

-- each line so far is a note or met
abbrev pub invariant-loop-line : goal.invariant-loop-line
invariant-loop-line l =
    (first_missing (record { script = bytes_of l.script; answers = bytes_of l.answers; steps = bytes_of l.steps }) l.number
    (bytes_of (drop l.line-index l.goal))
    ≡ first_missing (record { script = bytes_of l.script; answers = bytes_of l.answers; steps = bytes_of l.steps }) 1
    (bytes_of l.goal)) × (l.number ≡ l.line-index + 1)
