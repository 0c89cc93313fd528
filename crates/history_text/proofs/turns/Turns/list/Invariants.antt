use Rattle.std.proofs.Common.{◌≡◌, ◌+◌, ◌-◌, ℕ, length}
use Rattle.history_text.specs.Turns.{turn_at}
use Rattle.history_text.proofs.turns.Turns.list.Given as goal

-- what is listed so far says nothing new
abbrev pub invariant-loop-self : goal.invariant-loop-self
invariant-loop-self l = (p : ℕ) → turn_at l.self.turns.items p ≡ turn_at l.fn.self.turns.items p

abbrev pub decreases-loop-self : goal.decreases-loop-self
decreases-loop-self l = l.process + 1 - length l.self.turns.items
