use Rattle.signs.proofs.Vocabulary.{All, IsInView, drop}
use Rattle.signs.proofs.view.cuts_none.Given as goal

-- what is seen of the rest is all that is missing
abbrev pub invariant-loop-shape : goal.invariant-loop-shape
invariant-loop-shape l = All (IsInView l.left l.width l.height) (drop l.shape-index l.strip) → All (IsInView l.left l.width l.height) l.strip
