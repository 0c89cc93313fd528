use Rattle.uni_small.proofs.Vocabulary.{All, HasInvocation, due_at, length, map, seen_in, ℕ, ◌≡◌}
use Rattle.uni_small.proofs.log.open.seen_room.Given as goal

abbrev pub invariant-loop : goal.invariant-loop
invariant-loop l = (length l.seen.items ≡ l.counter) × All (HasInvocation l.sizes) l.seen.items × ((q : ℕ) → due_at (map seen_in l.seen.items) q ≡ 0)
