use Rattle.uni_log.proofs.Vocabulary.{Anchor, IsSome, List, Name, Of, cell_of, chain, name_eq, name_in, position, seq_of, world_of, ◌+◌, ◌-◌, ◌^◌, ◌≡◌}
use Rattle.std.specs.List.{position_from}
use Rattle.uni_log.proofs.Walk.{IsAlong}
use Rattle.uni_log.proofs.log.Log.place_of.Given as goal

abbrev pub invariant-loop-next : goal.invariant-loop-next
invariant-loop-next g l = record {
  there : IsSome (cell_of l.world.shared.cells l.at);
  rest : List Name;
  along : IsAlong (world_of l.world) (name_in (world_of l.world) l.at) (l.place + seq_of (world_of l.world).memory Anchor) rest;
  whole : position_from (name_eq (Of l.call.process l.call.nth)) l.place rest ≡ position (name_eq (Of l.call.process l.call.nth)) (chain (world_of l.world));
}

abbrev pub decreases-loop-next : goal.decreases-loop-next
decreases-loop-next g l = 2 ^ 48 - l.place
