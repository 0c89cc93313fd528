use Rattle.signs.proofs.Vocabulary.{AreInSight, drop}
use Rattle.signs.proofs.check.are_in_sight.Given as goal

-- what is seen of the rest is all that is missing
abbrev pub invariant-loop-i : goal.invariant-loop-i
invariant-loop-i l = AreInSight (drop l.i l.shapes) → AreInSight l.shapes
