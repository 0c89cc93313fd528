use Rattle.uni_core.proofs.Vocabulary.{cell_of, index_of, option_map, outline, world_of, ℕ, ◌<◌, ◌≡◌}
use Rattle.uni_core.proofs.world.World.same_row.Given as goal

abbrev pub invariant-loop-nth : goal.invariant-loop-nth
invariant-loop-nth g l = (nth : ℕ) → nth < l.nth → option_map outline (cell_of l.self.shared.cells (index_of (world_of l.self).n l.p nth))
    ≡ option_map outline (cell_of l.other.shared.cells (index_of (world_of l.self).n l.p nth))
