use Rattle.std.specs.Prelude.{◌≡◌, ◌<◌, take}
use Rattle.parted_map.specs.PartedMap.{part_of}
use Rattle.parted_map.proofs.part_of.Given as goal

-- the sum is that of the bytes so far
abbrev pub invariant-loop-byte : goal.invariant-loop-byte
invariant-loop-byte l = (l.sum < 32) × (l.sum ≡ part_of (take l.byte-index l.bytes))
