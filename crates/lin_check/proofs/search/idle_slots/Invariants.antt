use Rattle.lin_check.proofs.Vocabulary.{Idle, length, slot_at, ℕ, ◌-◌, ◌≡◌, ◌≤◌}
use Rattle.lin_check.proofs.search.idle_slots.Given as goal

abbrev pub invariant-loop-slots : goal.invariant-loop-slots
invariant-loop-slots l = record {
  idle : (p : ℕ) → slot_at l.slots.items p ≡ Idle;
  few : length l.slots.items ≤ l.n;
}

abbrev pub decreases-loop-slots : goal.decreases-loop-slots
decreases-loop-slots l = l.n - length l.slots.items
