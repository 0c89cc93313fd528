use Rattle.std.specs.Prelude.{◌≡◌, ◌≤◌, ◌++◌}
use Rattle.std.specs.Char.Escape.{escape_ascii}
use Rattle.std.specs.Char.Iter.{escape_byte_end, escape_byte_left, escape_byte_rest}
use Rattle.course_run.proofs.judging.push_escape.Given as goal

-- what was added and what is left are the escape
abbrev pub invariant-escape : goal.invariant-escape
invariant-escape l = record {
  short : escape_byte_end l.rest ≤ 4;
  whole : l.text.items ++ escape_byte_rest l.rest ≡ l.initial.text.items ++ escape_ascii l.byte;
}

abbrev pub decreases-escape : goal.decreases-escape
decreases-escape l = escape_byte_left l.rest
