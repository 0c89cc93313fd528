use Rattle.signs.proofs.Vocabulary.{AreClear, drop}
use Rattle.signs.proofs.view.are_clear.Given as goal

-- what is seen of the rest is all that is missing
abbrev pub invariant-loop-i : goal.invariant-loop-i
invariant-loop-i l = AreClear (drop l.i l.shapes) → AreClear l.shapes
