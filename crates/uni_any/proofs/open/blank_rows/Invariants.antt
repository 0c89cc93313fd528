use Rattle.uni_any.proofs.Vocabulary.{blank, replicate, ◌≡◌}
use Rattle.uni_any.proofs.open.blank_rows.Given as goal

abbrev pub invariant-loop : goal.invariant-loop
invariant-loop g l = l.rows.items ≡ replicate l.counter blank
