use Rattle.uni_log.proofs.Vocabulary.{IsSome, Some, cell_of, map, name_in, seq_of, slice_get, world_of, ◌≡◌}
use Rattle.uni_log.proofs.Back.{IsBack}
use Rattle.uni_log.proofs.log.Log.cells_back.Given as goal

abbrev pub invariant-loop-before : goal.invariant-loop-before
invariant-loop-before g l = record {
  there : IsSome (cell_of l.world.shared.cells l.at);
  first : slice_get l.back.items 0 ≡ Some l.fn.from;
  back : IsBack (world_of l.world) (name_in (world_of l.world) l.fn.from) (name_in (world_of l.world) l.at) (map (name_in (world_of l.world)) l.back.items);
}

abbrev pub decreases-loop-before : goal.decreases-loop-before
decreases-loop-before g l = seq_of (world_of l.world).memory (name_in (world_of l.world) l.at)
