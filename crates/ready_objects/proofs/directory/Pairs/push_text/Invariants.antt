use Rattle.ready_objects.proofs.Vocabulary.{arc_value, drop, map, named, pair_text, spaced_from, ◌++◌, ◌≡◌}
use Rattle.ready_objects.proofs.directory.Pairs.push_text.Given as goal

-- the pairs so far, and those of the rest
abbrev pub invariant-loop-place : goal.invariant-loop-place
invariant-loop-place l =
    l.text.items ++ spaced_from pair_text l.place (map (named (arc_value l.self-inside.names).keys) (drop l.place l.self-inside.pairs.items))
    ≡ l.initial.text.items ++ spaced_from pair_text 0 (map (named (arc_value l.self-inside.names).keys) l.self-inside.pairs.items)
