use Rattle.uni_small.proofs.Vocabulary.{IsOutside, All, HasInvocation, due_at, map, seen_in, ℕ, ◌<◌, ◌≡◌, ◌⊎◌}
use Rattle.uni_small.proofs.log.SmallShared.forget.Given as goal

abbrev pub invariant-loop-r : goal.invariant-loop-r
invariant-loop-r g l =
    ((q : ℕ) → (q < l.r) ⊎ IsOutside l.fn.busy.from l.fn.busy.to q → due_at (map seen_in l.seen) q ≡ 0)
    × All (HasInvocation l.fn.self.setup.sizes) l.seen
