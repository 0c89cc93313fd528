use Rattle.signs.proofs.Vocabulary.{Fills, drop}
use Rattle.signs.proofs.check.fill.Given as goal

-- what is seen of the rest is all that is missing
abbrev pub invariant-loop-shape : goal.invariant-loop-shape
invariant-loop-shape l = Fills l.end l.to (drop l.shape-index l.shapes) → Fills l.from l.to l.shapes
