use Rattle.cell_arena.proofs.Vocabulary.{AreEmpty, length, ◌≡◌}
use Rattle.cell_arena.proofs.rows.empty_rows.Given as goal

abbrev pub invariant-loop : goal.invariant-loop
invariant-loop g l = (length l.rows.items ≡ l.counter) × AreEmpty l.rows.items
