use Rattle.std.specs.Prelude.{codes}
use Rattle.svg_text.specs.Svg.{svg_node}
use Rattle.svg_text.proofs.Trees.{picture_well_named, text_of_node}
use Rattle.svg_text.proofs.svg.text_is_of_a_tree.Goals as goal

pub returns : goal.returns
returns c = record { text = λ p. text_of_node (svg_node p) (codes "\n"); names = picture_well_named }
