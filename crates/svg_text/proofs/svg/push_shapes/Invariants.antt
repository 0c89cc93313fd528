use Rattle.svg_text.proofs.Vocabulary.{flat_map, take, ◌++◌, ◌≡◌}
use Rattle.svg_text.specs.Svg.{shape_text}
use Rattle.svg_text.proofs.svg.push_shapes.Given as goal

-- the shapes so far are written
abbrev pub invariant-loop-shape : goal.invariant-loop-shape
invariant-loop-shape l = l.svg.items ≡ l.initial.svg.items ++ flat_map shape_text (take l.shape-index l.shapes)
