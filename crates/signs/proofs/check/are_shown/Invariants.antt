use Rattle.signs.proofs.Vocabulary.{AreShown, drop, map, meaning, places_shown}
use Rattle.signs.proofs.check.are_shown.Given as goal

-- what is seen of the rest is all that is missing
abbrev pub invariant-loop-shape : goal.invariant-loop-shape
invariant-loop-shape g l = AreShown (places_shown l.layout) (map meaning (drop l.next l.parts)) (map g.S.Seen.seen (drop l.shape-index l.shapes)) → AreShown (places_shown l.layout) (map meaning l.parts) (map g.S.Seen.seen l.shapes)
