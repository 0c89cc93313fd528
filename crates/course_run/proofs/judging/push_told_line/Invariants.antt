use Rattle.std.specs.Prelude.{◌≡◌, ◌++◌, flat_map, take}
use Rattle.course_run.specs.Goals.{told_byte}
use Rattle.course_run.proofs.judging.push_told_line.Given as goal

-- the bytes so far are told
abbrev pub invariant-loop-byte : goal.invariant-loop-byte
invariant-loop-byte l = l.text.items ≡ l.initial.text.items ++ flat_map told_byte (take l.byte-index l.line)
