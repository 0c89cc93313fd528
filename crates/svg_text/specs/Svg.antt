-- The text of a picture is that of its tree.
use Rattle.std.specs.Prelude.{ℕ, List, [], ◌∷◌, ◌++◌, codes}
use Rattle.std.specs.Fmt.{decimal}
use Rattle.svg_text.specs.declared.paint.Colour.{Colour}
use Rattle.svg_text.specs.declared.paint.Colour.TheVariants.{Orange, SkyBlue, Green, Yellow, Blue, Vermilion, Purple}
use Rattle.svg_text.specs.declared.paint.Paint.{Paint}
use Rattle.svg_text.specs.declared.paint.Paint.TheVariants.{Paper, Frame, Ink, Title, DarkLetter, LightLetter, Faint, Edge, Broken, Thick, Cross, Mark, Pale}
use Rattle.svg_text.specs.declared.shape.Anchor.{Anchor}
use Rattle.svg_text.specs.declared.shape.Anchor.TheVariants as anchors
use Rattle.svg_text.specs.declared.shape.Spot.{Spot}
use Rattle.svg_text.specs.declared.shape.Shape.{Shape}
use Rattle.svg_text.specs.declared.shape.Shape.TheVariants.{Rect, Titled, Line, Dot, Tip, Text, View}
use Rattle.svg_text.specs.declared.shape.Drawing.{Drawing}
use Rattle.svg_text.specs.Xml.{Attribute, Node, Nodes, Element, Words, End, Then, attributes_onto, node_onto, nodes}
pub use Rattle.svg_text.specs.Xml.{escaped}

-- the code of a colour
abbrev pub code_of : Colour → List ℕ
code_of Orange = codes "#e69f00"
code_of SkyBlue = codes "#56b4e9"
code_of Green = codes "#009e73"
code_of Yellow = codes "#f0e442"
code_of Blue = codes "#0072b2"
code_of Vermilion = codes "#d55e00"
code_of Purple = codes "#cc79a7"

abbrev pub anchor_name : Anchor → List ℕ
anchor_name anchors.Start = codes "start"
anchor_name anchors.Middle = codes "middle"
anchor_name anchors.End = codes "end"

abbrev pub point : Spot → List ℕ
point at = decimal at.x ++ codes "," ++ decimal at.y

-- the part of the plane that is shown: from its top, and from a place on
abbrev pub view_box : (left : List ℕ) (width height : ℕ) → List ℕ
view_box left width height = left ++ (codes " 0 " ++ (decimal width ++ (codes " " ++ decimal height)))

abbrev pub attribute : (name value : List ℕ) → Attribute
attribute name value = record { name = name; value = value }

abbrev pub number : List ℕ → ℕ → Attribute
number name n = attribute name (decimal n)

abbrev pub fill : List ℕ → Attribute
fill colour = attribute (codes "fill") colour

abbrev pub stroke : List ℕ → Attribute
stroke colour = attribute (codes "stroke") colour

abbrev pub large : List Attribute
large = attribute (codes "font-size") (codes "16") ∷ attribute (codes "font-weight") (codes "bold") ∷ []

-- the pointer passes through
abbrev pub unseen : Attribute
unseen = attribute (codes "pointer-events") (codes "none")

-- how a shape is painted
abbrev pub paint_attributes : Paint → List Attribute
paint_attributes Paper = fill (codes "#ffffff") ∷ []
paint_attributes Frame = fill (codes "#ffffff") ∷ stroke (codes "#333333") ∷ []
paint_attributes Ink = fill (codes "#000000") ∷ []
paint_attributes Title = fill (codes "#000000") ∷ large
paint_attributes DarkLetter = fill (codes "#000000") ∷ large ++ unseen ∷ []
paint_attributes LightLetter = fill (codes "#ffffff") ∷ large ++ unseen ∷ []
paint_attributes Faint = stroke (codes "#bbbbbb") ∷ []
paint_attributes Edge = stroke (codes "#333333") ∷ []
paint_attributes Broken = stroke (codes "#333333") ∷ attribute (codes "stroke-dasharray") (codes "6 4") ∷ []
paint_attributes Thick = stroke (codes "#000000") ∷ attribute (codes "stroke-width") (codes "2") ∷ []
paint_attributes Cross = stroke (codes "#d55e00") ∷ attribute (codes "stroke-width") (codes "3") ∷ []
paint_attributes (Mark c) = fill (code_of c) ∷ stroke (codes "#333333") ∷ []
paint_attributes (Pale c) = fill (code_of c) ∷ stroke (codes "#333333") ∷ attribute (codes "fill-opacity") (codes "0.25") ∷ []

-- the attributes as they stand in a tag
unfoldable pub paint_text : Paint → List ℕ
paint_text paint = attributes_onto (paint_attributes paint) []

-- where a rectangle stands, and how large it is
abbrev pub box_attributes : Spot → (width height : ℕ) → List Attribute → List Attribute
box_attributes at width height more =
    number (codes "x") at.x ∷ number (codes "y") at.y ∷ number (codes "width") width ∷ number (codes "height") height ∷ more

abbrev pub shape_node : Shape → Node
shape_node (Rect at width height paint) = Element (codes "rect") (box_attributes at width height (paint_attributes paint)) End
shape_node (Titled at width height paint title) =
    Element (codes "rect") (box_attributes at width height (paint_attributes paint))
    (nodes (Element (codes "title") [] (nodes (Words title.items ∷ [])) ∷ []))
shape_node (Line one other paint) =
    Element (codes "line") (number (codes "x1") one.x ∷ number (codes "y1") one.y ∷ number (codes "x2") other.x ∷ number (codes "y2") other.y
    ∷ paint_attributes paint) End
shape_node (Dot at) =
    Element (codes "circle") (number (codes "cx") at.x ∷ number (codes "cy") at.y ∷ attribute (codes "r") (codes "6")
    ∷ fill (codes "#000000") ∷ stroke (codes "#ffffff") ∷ []) End
shape_node (Tip at one other) =
    Element (codes "polygon") (attribute (codes "points") (point at ++ codes " " ++ point one ++ codes " " ++ point other)
    ∷ fill (codes "#000000") ∷ []) End
shape_node (Text at anchor paint text) =
    Element (codes "text") (number (codes "x") at.x ∷ number (codes "y") at.y ∷ attribute (codes "text-anchor") (anchor_name anchor)
    ∷ paint_attributes paint) (nodes (Words text.items ∷ []))
shape_node (View at width height left) =
    Element (codes "svg") (box_attributes at width height (attribute (codes "viewBox") (view_box (decimal left) width height) ∷ []))
    (nodes (Element (codes "use") (attribute (codes "href") (codes "#strip") ∷ []) End ∷ []))

-- the text of a shape, with the end of its line
unfoldable pub shape_text : Shape → List ℕ
shape_text shape = node_onto (shape_node shape) (codes "\n")

abbrev pub line_end : Node
line_end = Words (codes "\n")

-- shapes, each on a line of its own
abbrev pub lines : List Shape → Nodes
lines [] = End
lines (shape ∷ shapes) = Then (shape_node shape) (Then line_end (lines shapes))

abbrev pub titled : (name id text : List ℕ) → Node
titled name id text = Element name (attribute (codes "id") id ∷ []) (nodes (Words text ∷ []))

abbrev pub paper_node : (width height : ℕ) → Node
paper_node width height =
    Element (codes "rect") (number (codes "width") width ∷ number (codes "height") height ∷ fill (codes "#ffffff") ∷ []) End

abbrev pub strip_node : List Shape → Node
strip_node strip =
    Element (codes "defs") []
    (nodes (line_end ∷ Element (codes "g") (attribute (codes "id") (codes "strip") ∷ []) (Then line_end (lines strip)) ∷ line_end ∷ []))

abbrev pub svg_attributes : (width height : ℕ) → List Attribute
svg_attributes width height =
    attribute (codes "xmlns") (codes "http://www.w3.org/2000/svg") ∷ attribute (codes "viewBox") (view_box (codes "0") width height)
    ∷ number (codes "width") width ∷ number (codes "height") height ∷ attribute (codes "role") (codes "img")
    ∷ attribute (codes "aria-labelledby") (codes "title description") ∷ attribute (codes "font-family") (codes "monospace")
    ∷ attribute (codes "font-size") (codes "13") ∷ []

-- the tree of a picture: its title, its description, its paper, its strip and its shapes, each on a line of its own
abbrev pub svg_node : Drawing → Node
svg_node d =
    Element (codes "svg") (svg_attributes d.width d.height)
    (Then line_end (Then (titled (codes "title") (codes "title") d.title.items) (Then line_end
    (Then (titled (codes "desc") (codes "description") d.description.items) (Then line_end
    (Then (paper_node d.width d.height) (Then line_end (Then (strip_node d.strip.items) (Then line_end (lines d.shapes.items))))))))))

-- the text of a picture, with a line's end after it
abbrev pub svg_text : Drawing → List ℕ
svg_text d = node_onto (svg_node d) (codes "\n")
