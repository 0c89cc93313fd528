use Rattle.run_graph.proofs.Vocabulary.{[], length, list_at, ℕ, ◌≡◌}
use Rattle.run_graph.proofs.worlds.no_worlds.Given as goal

abbrev pub invariant-loop : goal.invariant-loop
invariant-loop g l = record {
  count : length l.worlds.items ≡ l.index;
  none : (i : ℕ) → list_at l.worlds.items i ≡ [];
}
