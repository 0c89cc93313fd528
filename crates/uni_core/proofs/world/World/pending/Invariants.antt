use Rattle.uni_core.proofs.Vocabulary.{None, world_of, ℕ, ◌<◌, ◌≡◌}
use Rattle.uni_core.proofs.world.World.pending.Given as goal

abbrev pub invariant-loop-p : goal.invariant-loop-p
invariant-loop-p g l = (q : ℕ) → q < l.p → (world_of l.self).call q ≡ None
