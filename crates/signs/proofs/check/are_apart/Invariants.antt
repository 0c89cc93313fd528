use Rattle.signs.proofs.Vocabulary.{AreApartFrom, drop}
use Rattle.signs.proofs.check.are_apart.Given as goal

-- what is seen of the rest is all that is missing
abbrev pub invariant-loop-span : goal.invariant-loop-span
invariant-loop-span l = AreApartFrom l.end (drop l.span-index l.spans) → AreApartFrom 0 l.spans
