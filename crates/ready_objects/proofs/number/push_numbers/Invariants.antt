use Rattle.ready_objects.proofs.Vocabulary.{decimal, drop, spaced_from, ◌++◌, ◌≡◌}
use Rattle.ready_objects.proofs.number.push_numbers.Given as goal

-- the numbers so far, and those of the rest
abbrev pub invariant-loop-place : goal.invariant-loop-place
invariant-loop-place l = l.text.items ++ spaced_from decimal l.place (drop l.place l.numbers) ≡ l.initial.text.items ++ spaced_from decimal 0 l.numbers
