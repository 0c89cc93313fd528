use Rattle.told_order.proofs.Vocabulary.{InPlace, Some, map, next_of, ℕ, ◌<◌, ◌≡◌, ◌≢◌}
use Rattle.told_order.proofs.order.next_at.Given as goal

-- the next calls of the processes before this one were told other places
abbrev pub invariant-loop-p : goal.invariant-loop-p
invariant-loop-p g l =
    (q : ℕ) (call : g.row.C.Denot × InPlace g.row.R.Denot) → q < l.p → next_of (map (λ own. own.items) l.lists) l.made q ≡ Some call → call.1.place ≢ l.place
