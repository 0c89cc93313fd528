use Rattle.uni_log.proofs.Vocabulary.{Anchor, IsSome, List, Name, cell_of, chain, length, map, name_in, seq_of, world_of, ◌++◌, ◌+◌, ◌-◌, ◌^◌, ◌∷◌, ◌≡◌, ◌≤◌}
use Rattle.uni_log.proofs.Walk.{IsAlong}
use Rattle.uni_log.proofs.log.Log.cells_forward.Given as goal

abbrev pub invariant-loop-next : goal.invariant-loop-next
invariant-loop-next g l = record {
  some : 1 ≤ length l.forward.items;
  there : IsSome (cell_of l.world.shared.cells l.at);
  rest : List Name;
  along : IsAlong (world_of l.world) (name_in (world_of l.world) l.at) (length l.forward.items - 1 + seq_of (world_of l.world).memory Anchor) rest;
  whole : map (name_in (world_of l.world)) l.forward.items ++ rest ≡ Anchor ∷ chain (world_of l.world);
}

abbrev pub decreases-loop-next : goal.decreases-loop-next
decreases-loop-next g l = 2 ^ 48 - length l.forward.items
