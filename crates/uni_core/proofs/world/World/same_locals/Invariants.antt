use Rattle.uni_core.proofs.Vocabulary.{length, option_map, slice_get, standing_of, ℕ, ◌<◌, ◌≡◌}
use Rattle.uni_core.proofs.world.World.same_locals.Given as goal

abbrev pub invariant-loop-p : goal.invariant-loop-p
invariant-loop-p g l = (length l.self.locals ≡ length l.other.locals)
    × ((k : ℕ) → k < l.p → option_map standing_of (slice_get l.self.locals k) ≡ option_map standing_of (slice_get l.other.locals k))
