use Rattle.std.proofs.Common.{◌≡◌, ◌∷◌, drop}
use Rattle.ready_objects.specs.Words.{bytes_of}
use Rattle.course_run.specs.Goals.{come_in_order}
use Rattle.course_run.proofs.pattern.come_in_order.Given as goal

-- the patterns that are left come in what is left of the lines, exactly where all come in all
abbrev pub invariant-loop-line : goal.invariant-loop-line
invariant-loop-line l =
    come_in_order (l.wanted ∷ bytes_of l.others) (bytes_of (drop l.line-index l.lines))
    ≡ come_in_order (bytes_of l.patterns) (bytes_of l.lines)
