-- What comes after the text of a tree, and the names of the tree of a picture.
use Rattle.svg_text.proofs.Vocabulary.{Dot, Drawing, Line, List, Rect, Shape, Text, Tip, Titled, View, [], and_from, ap, append_assoc, arith, are_well_named, codes, decimal, escaped, flat_map, is_well_named, lines, refl, shape_node, strip_node, svg_node, sym, true, ℕ, ◌++◌, ◌∙◌, ◌∷◌, ◌≡◌}
use Rattle.svg_text.specs.declared.paint.Paint.{Paint}
use Rattle.svg_text.proofs.Escapes.{anchor_text, escaped_append, escaped_decimal}
use Rattle.svg_text.specs.Svg.{paint_attributes, svg_text}
unfoldable use Rattle.svg_text.specs.Svg.{shape_text, paint_text}
use Rattle.svg_text.specs.Xml.{Attribute, Element, End, Node, Nodes, Then, Words, attributes_onto, node_onto, nodes_onto}

-- pieces that come before what follows
single : (n a r : List ℕ) → codes "<" ++ (n ++ (a ++ (codes "/>" ++ r))) ≡ (codes "<" ++ (n ++ (a ++ codes "/>"))) ++ r
single n a r = simp append_assoc

double : (n a w r : List ℕ) → codes "<" ++ (n ++ (a ++ (codes ">" ++ (w ++ (codes "</" ++ (n ++ (codes ">" ++ r)))))))
    ≡ (codes "<" ++ (n ++ (a ++ (codes ">" ++ (w ++ (codes "</" ++ (n ++ codes ">"))))))) ++ r
double n a w r = simp append_assoc

attributes_rest : (all : List Attribute) (rest : List ℕ) → attributes_onto all rest ≡ attributes_onto all [] ++ rest
attributes_rest [] rest = refl
attributes_rest (a ∷ all) rest = rw (attributes_rest all rest) (simp append_assoc)

mutual
  pub text_of_node : (n : Node) (rest : List ℕ) → node_onto n rest ≡ node_onto n [] ++ rest
  text_of_node (Element name all End) rest =
      rw (attributes_rest all (codes "/>" ++ rest), attributes_rest all (codes "/>")) (single name (attributes_onto all []) rest)
  text_of_node (Element name all (Then node more)) rest =
      let within : (x : List ℕ) → attributes_onto all (codes ">" ++ nodes_onto (Then node more) x)
      ≡ attributes_onto all [] ++ (codes ">" ++ (nodes_onto (Then node more) [] ++ x))
      = λ x. rw (attributes_rest all (codes ">" ++ nodes_onto (Then node more) x), nodes_rest (Then node more) x) in
      rw (within (codes "</" ++ (name ++ (codes ">" ++ rest))), within (codes "</" ++ (name ++ codes ">")))
      (double name (attributes_onto all []) (nodes_onto (Then node more) []) rest)
  text_of_node (Words text) rest = sym (append_assoc (escaped text) [] rest)

  nodes_rest : (ns : Nodes) (rest : List ℕ) → nodes_onto ns rest ≡ nodes_onto ns [] ++ rest
  nodes_rest End rest = refl
  nodes_rest (Then node more) rest =
      rw (text_of_node node (nodes_onto more rest), text_of_node node (nodes_onto more []), nodes_rest more rest)
      (sym (append_assoc (node_onto node []) (nodes_onto more []) rest))

-- how a shape is painted, and what comes after it
pub paint_onto : (p : Paint) (rest : List ℕ) → attributes_onto (paint_attributes p) rest ≡ paint_text p ++ rest
unfolding paint_text
paint_onto p rest = attributes_rest (paint_attributes p) rest

line_more : (n : Node) (x rest : List ℕ) → node_onto n (codes "\n" ++ (x ++ rest)) ≡ (node_onto n (codes "\n") ++ x) ++ rest
line_more n x rest = rw (text_of_node n (codes "\n" ++ (x ++ rest)), text_of_node n (codes "\n")) (simp append_assoc)

-- the lines of the shapes, and what comes after them
pub lines_onto : (shapes : List Shape) (rest : List ℕ) → nodes_onto (lines shapes) rest ≡ flat_map shape_text shapes ++ rest
unfolding shape_text
lines_onto [] rest = refl
lines_onto (f ∷ shapes) rest =
    ap (λ l. node_onto (shape_node f) (codes "\n" ++ l)) (lines_onto shapes rest) ∙ line_more (shape_node f) (flat_map shape_text shapes) rest

-- what the pieces of a text come to
pub ruleset plain_parts = (append_assoc, paint_onto, escaped_append, escaped_decimal, anchor_text)

-- the text of a picture, piece by piece
pub picture_text : (d : Drawing) → svg_text d ≡ (codes "<svg xmlns=\"http://www.w3.org/2000/svg\" viewBox=\"0 0 " ++ (decimal d.width ++ (codes " " ++ (decimal d.height
    ++ (codes "\" width=\"" ++ (decimal d.width ++ (codes "\" height=\"" ++ (decimal d.height ++ codes "\""))))))))
    ++ (codes " role=\"img\" aria-labelledby=\"title description\" font-family=\"monospace\" font-size=\"13\">\n<title id=\"title\">"
    ++ (escaped d.title.items ++ (codes "</title>\n<desc id=\"description\">" ++ (escaped d.description.items
    ++ ((codes "</desc>\n<rect width=\"" ++ (decimal d.width ++ (codes "\" height=\"" ++ (decimal d.height ++ codes "\" fill=\"#ffffff\"/>\n<defs>\n<g id=\"strip\">\n"))))
    ++ (flat_map shape_text d.strip.items ++ (codes "</g>\n</defs>\n" ++ (flat_map shape_text d.shapes.items ++ codes "</svg>\n"))))))))
picture_text d = simp (lines_onto, append_assoc, escaped_append, escaped_decimal)

-- pieces that are added one after the other
pub gathered : (x a b c d e f g h i j : List ℕ) → x ++ a ++ b ++ c ++ d ++ e ++ f ++ g ++ h ++ i ++ j
    ≡ x ++ (a ++ (b ++ (c ++ (d ++ (e ++ (f ++ (g ++ (h ++ (i ++ j)))))))))
gathered x a b c d e f g h i j = simp append_assoc

-- ---- names

shape_well_named : (f : Shape) → is_well_named (shape_node f) ≡ true
shape_well_named f = grind arith

shapes_well_named : (shapes : List Shape) → are_well_named (lines shapes) ≡ true
shapes_well_named [] = refl
shapes_well_named (f ∷ shapes) = and_from (is_well_named (shape_node f)) (are_well_named (lines shapes)) (shape_well_named f) (shapes_well_named shapes)

pub picture_well_named : (d : Drawing) → is_well_named (svg_node d) ≡ true
picture_well_named d = and_from (is_well_named (strip_node d.strip.items)) (are_well_named (lines d.shapes.items)) (and_from (are_well_named (lines d.strip.items)) true (shapes_well_named d.strip.items) refl) (shapes_well_named d.shapes.items)
