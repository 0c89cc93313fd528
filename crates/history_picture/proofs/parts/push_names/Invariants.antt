use Rattle.history_picture.proofs.Vocabulary.{drop, map, meaning, names_from, ◌++◌, ◌≡◌}
use Rattle.history_picture.proofs.parts.push_names.Given as goal

-- those so far, and those of the rest
abbrev pub invariant-loop-name : goal.invariant-loop-name
invariant-loop-name l = record {
  told : map meaning l.parts.items ++ names_from l.lane (drop l.name-index l.names) ≡ map meaning l.fn.parts.items ++ names_from 0 l.names;
  lane : l.lane ≡ l.name-index;
}
