use Rattle.svg_text.proofs.Vocabulary.{escaped_byte, flat_map, take, ◌++◌, ◌≡◌}
use Rattle.svg_text.proofs.svg.push_escaped.Given as goal

-- the bytes so far are written
abbrev pub invariant-loop-byte : goal.invariant-loop-byte
invariant-loop-byte l = l.svg.items ≡ l.initial.svg.items ++ flat_map escaped_byte (take l.byte-index l.text)
