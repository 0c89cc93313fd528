use Rattle.told_order.proofs.Vocabulary.{None, map, next_of, ℕ, ◌<◌, ◌≡◌}
use Rattle.told_order.proofs.order.first_left.Given as goal

-- the processes before this one have no call left
abbrev pub invariant-loop-p : goal.invariant-loop-p
invariant-loop-p g l = (q : ℕ) → q < l.p → next_of (map (λ own. own.items) l.lists) l.made q ≡ None
