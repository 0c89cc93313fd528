use Rattle.ready_objects.proofs.Vocabulary.{AreNamed, arc_value, map, named, take, ◌≡◌}
use Rattle.ready_objects.proofs.directory.Pairs.collected.Given as goal

abbrev pub invariant-loop-pair : goal.invariant-loop-pair
invariant-loop-pair l =
    AreNamed l.names.keys l.pairs.items × (map (named l.names.keys) l.pairs.items ≡ map (named (arc_value l.self-inside.names).keys) (take l.pair-index l.pair-items))
