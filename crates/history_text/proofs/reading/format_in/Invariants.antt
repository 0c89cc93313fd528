use Rattle.std.proofs.Common.{◌≡◌, drop}
use Rattle.ready_objects.specs.Words.{bytes_of}
use Rattle.history_text.specs.Own.{is_own}
use Rattle.history_text.proofs.reading.format_in.Given as goal

-- the notes so far say nothing
abbrev pub invariant-loop-line : goal.invariant-loop-line
invariant-loop-line l = is_own (bytes_of (drop l.line-index l.lines)) ≡ is_own (bytes_of l.lines)
