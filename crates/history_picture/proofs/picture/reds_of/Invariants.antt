use Rattle.history_picture.proofs.Vocabulary.{Red, map, red_outline, take, ◌≡◌}
use Rattle.history_picture.proofs.picture.reds_of.Given as goal

-- those so far
abbrev pub invariant-loop-shape : goal.invariant-loop-shape
invariant-loop-shape l = map (λ (red : Red). red_outline red.shape.now) l.reds.items ≡ map red_outline (take l.shape-index l.shapes)
