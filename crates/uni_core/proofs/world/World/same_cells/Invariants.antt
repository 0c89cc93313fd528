use Rattle.uni_core.proofs.Vocabulary.{calls_in_era, cell_of, index_of, option_map, outline, world_of, ℕ, ◌<◌, ◌≡◌}
use Rattle.uni_core.proofs.world.World.same_cells.Given as goal

abbrev pub invariant-loop-p : goal.invariant-loop-p
invariant-loop-p g l = record {
  counts : (q : ℕ) → q < l.p → calls_in_era (world_of l.other) q ≡ calls_in_era (world_of l.self) q;
  cells : (q : ℕ) → q < l.p → (nth : ℕ) → nth < calls_in_era (world_of l.self) q
      → option_map outline (cell_of l.self.shared.cells (index_of (world_of l.self).n q nth))
      ≡ option_map outline (cell_of l.other.shared.cells (index_of (world_of l.self).n q nth));
}
