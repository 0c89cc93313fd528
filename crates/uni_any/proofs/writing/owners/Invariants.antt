use Rattle.std.specs.Prelude.{All, length, ◌≡◌}
use Rattle.std.specs.Arc.{arc_value}
use Rattle.uni_any.proofs.writing.owners.Given as goal

abbrev pub invariant-loop : goal.invariant-loop
invariant-loop g l = (length l.all.items ≡ l.counter) × All (λ c. arc_value c ≡ arc_value l.value) l.all.items
