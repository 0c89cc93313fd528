use Rattle.std.specs.Prelude.{◌≡◌, ◌≤◌, [], map, replicate}
use Rattle.std.specs.Arc.{arc_value}
use Rattle.parted_map.proofs.PartedMapSeqObject.start.Given as goal

-- so many parts are there, each without a pair
abbrev pub invariant-loop : goal.invariant-loop
invariant-loop l = (l.counter ≤ 32) × (map arc_value l.parts.items ≡ replicate l.counter [])
