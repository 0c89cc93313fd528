use Rattle.lin_check.proofs.Vocabulary.{None, drop, get_or, length, next_return, replies_of, ℕ, ◌<◌, ◌≡◌, ◌≤◌}
use Rattle.lin_check.proofs.replies.replies.Given as goal

abbrev pub invariant-loop-i : goal.invariant-loop-i
invariant-loop-i g l = record {
  bound : l.i ≤ length l.history;
  long : length l.replies.items ≡ length l.history;
  many : length l.latest.items ≡ l.n;
  tail : drop l.i l.replies.items ≡ replies_of (drop l.i l.history);
  each : (p : ℕ) → p < l.n → get_or l.latest.items p None ≡ next_return p (drop l.i l.history);
}

abbrev pub decreases-loop-i : goal.decreases-loop-i
decreases-loop-i g l = l.i
