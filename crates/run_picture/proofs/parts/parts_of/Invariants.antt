use Rattle.run_picture.proofs.Vocabulary.{flat_map, map, meaning, parts_of, sign_shown, take, ◌≡◌}
use Rattle.run_picture.proofs.parts.parts_of.Given as goal

-- those so far
abbrev pub invariant-loop-sign : goal.invariant-loop-sign
invariant-loop-sign l = map meaning l.parts.items ≡ flat_map parts_of (map sign_shown (take l.sign-index l.signs))
