use Rattle.run_tell.proofs.Vocabulary.{escaped_byte, flat_map, take, ◌++◌, ◌≡◌}
use Rattle.run_tell.proofs.page.push_escaped.Given as goal

-- the bytes so far
abbrev pub invariant-loop-byte : goal.invariant-loop-byte
invariant-loop-byte l = l.text.items ≡ l.initial.text.items ++ flat_map escaped_byte (take l.byte-index l.json)
