-- What a drawing has to show of marks, without a number of pixels.
use Rattle.std.specs.Prelude.{◌≡◌, ℕ, ◌+◌, ◌<◌, ◌≤◌, List, [], ◌∷◌, Option, Some, None, ⊤, IfSome, IsSomeAnd, slice_index_or, refl}
use Rattle.std.specs.List.{All}
use Rattle.svg_text.specs.declared.paint.Paint.{Paint}
use Rattle.svg_text.specs.declared.paint.Paint.TheVariants.{Paper, Faint, Edge, Broken, Thick, Pale}
use Rattle.svg_text.specs.declared.shape.Shape.{Shape}
use Rattle.svg_text.specs.declared.shape.Shape.TheVariants.{Rect, Titled, Line, Dot, Tip, Text, View}
use Rattle.svg_text.specs.declared.shape.Spot.{Spot}
use Rattle.signs.specs.declared.sign.Look.{Look}
use Rattle.signs.specs.declared.sign.Look.TheVariants as look
use Rattle.signs.specs.declared.sign.Edge.{Edge as Side}
use Rattle.signs.specs.declared.sign.Edge.TheVariants.{Start, Before, After, End}
use Rattle.signs.specs.declared.sign.Span.{Span}
use Rattle.signs.specs.declared.sign.Part.{Part}
use Rattle.signs.specs.declared.sign.Layout.{Layout}

-- ---- where things stand

-- spans one after the other: none is empty, and each begins where the one before it ends, or further on
abbrev pub AreApartFrom : (start : ℕ) → List Span → Type 0
AreApartFrom start [] = ⊤
AreApartFrom start (span ∷ spans) = (start ≤ span.from) × (span.from < span.to) × AreApartFrom span.to spans

-- where the columns of events stand, and the lanes of processes
pub record Places : Type 0 where
  pub columns : List Span
  pub lanes : List Span
  pub width : ℕ
  pub height : ℕ

-- the columns rise with the events, and the lanes are apart
pub record AreApart (places : Places) : Type 0 where
  pub columns : AreApartFrom 0 places.columns
  pub lanes : AreApartFrom 0 places.lanes

-- one of some spans; where there is none nothing stands
abbrev pub span_at : List Span → (place : ℕ) → Span
span_at spans place = slice_index_or spans place (record { from = 1; to = 0 })

-- where all begins, the column of an event begins or ends, or all ends
abbrev pub edge_at : Places → Side → ℕ
edge_at places Start = 0
edge_at places (Before event) = (span_at places.columns event).from
edge_at places (After event) = (span_at places.columns event).to
edge_at places End = places.width

-- from one edge to another
abbrev pub wide_of : Places → Side × Side → Span
wide_of places edges = record { from = edge_at places edges.0; to = edge_at places edges.1 }

-- from the lane of one process to that of another, or from the top of all to the bottom
abbrev pub high_of : Places → Option (ℕ × ℕ) → Span
high_of places None = record { from = 0; to = places.height }
high_of places (Some ends) = record { from = (span_at places.lanes ends.0).from; to = (span_at places.lanes ends.1).to }

-- ---- what a shape is

-- a point is in a span from left to right, and in one from the top down
pub record Holds (wide high : Span) (point : ℕ × ℕ) : Type 0 where
  pub left : wide.from ≤ point.0
  pub right : point.0 ≤ wide.to
  pub top : high.from ≤ point.1
  pub bottom : point.1 ≤ high.to

-- what is looked at of a shape: what it tells by its looks, what it says, and its corners
pub record Outline : Type 0 where
  pub look : Option Look
  pub text : List ℕ
  pub corners : List (ℕ × ℕ)

abbrev pub IsWithin : (wide high : Span) → Outline → Type 0
IsWithin wide high outline = All (Holds wide high) outline.corners

-- what a line tells by its looks, and a shape: paper and pale lines tell nothing
abbrev pub line_look : Paint → Option Look
line_look Faint = None
line_look Edge = Some look.Edge
line_look Broken = Some look.End
line_look Thick = Some look.Arrow
line_look _ = Some look.Cross

abbrev pub look_of : Shape → Option Look
look_of (Rect _ _ _ Paper) = None
look_of (Rect _ _ _ _) = Some look.Bar
look_of (Titled _ _ _ (Pale _) _) = Some look.Pale
look_of (Titled _ _ _ _ _) = Some look.Step
look_of (Line _ _ paint) = line_look paint
look_of (Dot _) = Some look.Dot
look_of (Tip _ _ _) = Some look.Tip
look_of (Text _ _ _ _) = Some look.Text
look_of (View _ _ _ _) = None

abbrev pub text_of : Shape → List ℕ
text_of (Titled _ _ _ _ title) = title.items
text_of (Text _ _ _ text) = text.items
text_of _ = []

-- all corners, and the point at which a text stands
abbrev pub point : Spot → ℕ × ℕ
point at = (at.x, at.y)

abbrev pub ends_of : Spot → (width height : ℕ) → List (ℕ × ℕ)
ends_of at width height = point at ∷ (at.x + width, at.y + height) ∷ []

abbrev pub corners_of : Shape → List (ℕ × ℕ)
corners_of (Rect at width height _) = ends_of at width height
corners_of (Titled at width height _ _) = ends_of at width height
corners_of (Line one other _) = point one ∷ point other ∷ []
corners_of (Dot at) = point at ∷ []
corners_of (Tip at one other) = point at ∷ point one ∷ point other ∷ []
corners_of (Text at _ _ _) = point at ∷ []
corners_of (View at width height _) = ends_of at width height

abbrev pub outline_of : Shape → Outline
outline_of shape = record { look = look_of shape; text = text_of shape; corners = corners_of shape }

-- no shape passes an edge
abbrev pub AreWithin : (width height : ℕ) → List Shape → Type 0
AreWithin width height shapes =
    All (λ shape. IsWithin (record { from = 0; to = width }) (record { from = 0; to = height }) (outline_of shape)) shapes

-- paper lies over all of a shape
abbrev pub Hides : (paper shape : Shape) → Type 0
Hides (Rect at width height Paper) shape =
    IsWithin (record { from = at.x; to = at.x + width }) (record { from = at.y; to = at.y + height }) (outline_of shape)
Hides _ shape = ⊥

-- no shape that tells something is hidden by one that is drawn after it
abbrev pub AreInSight : List Shape → Type 0
AreInSight [] = ⊤
AreInSight (shape ∷ shapes) = IfSome (look_of shape) (λ _. All (λ later. ¬ (Hides later shape)) shapes) × AreInSight shapes

-- ---- what it shows

-- a shape that a mark is to have: its looks, its columns, its lanes, and what it says
pub record Meaning : Type 0 where
  pub look : Look
  pub columns : Side × Side
  pub lanes : Option (ℕ × ℕ)
  pub text : List ℕ

-- The furthest right that a bar begins, and the furthest left that it ends: in the columns of its first and its last event. One that began
-- before all, or goes on to the end, has no such place.
abbrev pub latest_start : Places → Side → ℕ
latest_start places (Before event) = (span_at places.columns event).to
latest_start places _ = places.width

abbrev pub earliest_end : Places → Side → ℕ
earliest_end places (After event) = (span_at places.columns event).from
earliest_end places _ = 0

-- from where to where a shape reaches, from left to right
abbrev pub reach_of : List (ℕ × ℕ) → Option (ℕ × ℕ)
reach_of (one ∷ other ∷ _) = Some (one.0, other.0)
reach_of _ = None

-- a shape isn't empty, and reaches from the one column to the other
abbrev pub Reaches : Places → Side × Side → Outline → Type 0
Reaches places columns outline =
    IsSomeAnd (reach_of outline.corners) (λ reach.
    (reach.0 ≤ latest_start places columns.0) × (earliest_end places columns.1 ≤ reach.1) × (reach.0 < reach.1))

abbrev pub IsBar : Look → Type 0
IsBar l = l ≡ look.Bar

-- this is such a shape; a bar has both its ends in their columns
pub record Shows (places : Places) (part : Meaning) (outline : Outline) : Type 0 where
  pub look : outline.look ≡ Some part.look
  pub text : outline.text ≡ part.text
  pub place : IsWithin (wide_of places part.columns) (high_of places part.lanes) outline
  pub ends : IsBar part.look → Reaches places part.columns outline

-- the shapes that tell something are these, in order: each is drawn once, and no other
pub data AreShown (places : Places) : List Meaning → List Outline → Type 0 where
  done : AreShown places [] []
  plain : {parts : List Meaning} {outlines : List Outline} (outline : Outline) → outline.look ≡ None
      → AreShown places parts outlines → AreShown places parts (outline ∷ outlines)
  shown : {parts : List Meaning} {outlines : List Outline} (part : Meaning) (outline : Outline) → Shows places part outline
      → AreShown places parts outlines → AreShown places (part ∷ parts) (outline ∷ outlines)

-- ---- the rows

-- the views of a strip show all of it, from a place to another: each begins where the one before it ends
abbrev pub Fills : (from to : ℕ) → List Shape → Type 0
Fills from to [] = from ≡ to
Fills from to (View at width height left ∷ shapes) = (left ≡ from) × Fills (left + width) to shapes
Fills from to (_ ∷ shapes) = Fills from to shapes

-- all corners of a shape are left of a place, right of it, or not left of it
abbrev pub IsLeftOf : (place : ℕ) → Outline → Type 0
IsLeftOf place outline = All (λ corner. corner.0 < place) outline.corners

abbrev pub IsRightOf : (place : ℕ) → Outline → Type 0
IsRightOf place outline = All (λ corner. place < corner.0) outline.corners

abbrev pub IsFrom : (place : ℕ) → Outline → Type 0
IsFrom place outline = All (λ corner. place ≤ corner.0) outline.corners

-- or none is below a height, or none above it
abbrev pub IsAbove : (height : ℕ) → Outline → Type 0
IsAbove height outline = All (λ corner. corner.1 ≤ height) outline.corners

abbrev pub IsBelow : (height : ℕ) → Outline → Type 0
IsBelow height outline = All (λ corner. height ≤ corner.1) outline.corners

-- a strip begins at a place or further right
abbrev pub AreFrom : (place : ℕ) → List Shape → Type 0
AreFrom place strip = All (λ shape. IsFrom place (outline_of shape)) strip

-- a view that begins here in a strip does not cut a shape off: that is left of what it shows, or right of it, or ends above its foot
pub data IsInView (left width height : ℕ) (shape : Shape) : Type 0 where
  before : IsLeftOf left (outline_of shape) → IsInView left width height shape
  after : IsRightOf (left + width) (outline_of shape) → IsInView left width height shape
  high : IsAbove height (outline_of shape) → IsInView left width height shape

abbrev pub IsHighEnough : (strip : List Shape) → (view : Shape) → Type 0
IsHighEnough strip (View at width height left) = All (IsInView left width height) strip
IsHighEnough strip _ = ⊤

-- each view of a strip is as high as the shapes that it shows
abbrev pub AreHighEnough : (strip shapes : List Shape) → Type 0
AreHighEnough strip shapes = All (IsHighEnough strip) shapes

-- what is drawn after a view lies below it, another view too
abbrev pub IsClear : (view : Shape) → (later : List Shape) → Type 0
IsClear (View at width height left) later = All (λ shape. IsBelow (at.y + height) (outline_of shape)) later
IsClear _ later = ⊤

abbrev pub AreClear : List Shape → Type 0
AreClear [] = ⊤
AreClear (shape ∷ shapes) = IsClear shape shapes × AreClear shapes

-- ---- what the code has

abbrev pub meaning : Part → Meaning
meaning p = record { look = p.look; columns = p.columns; lanes = p.lanes; text = p.text.items }

abbrev pub places_shown : Layout → Places
places_shown l = record { columns = l.columns.items; lanes = l.lanes.items; width = l.width; height = l.height }

-- a dot of the second event and the first process, upon paper: it is within the column and the lane of both
abbrev two_of_one : Places
two_of_one =
    record { columns = record { from = 0; to = 20 } ∷ record { from = 20; to = 50 } ∷ []; lanes = record { from = 10; to = 90 } ∷ []; width = 60; height = 90 }

dot_of_second : wide_of two_of_one (Before 1, After 1) ≡ record { from = 20; to = 50 }
dot_of_second = refl

lane_of_first : high_of two_of_one (Some (0, 0)) ≡ record { from = 10; to = 90 }
lane_of_first = refl

dot_shown : outline_of (Dot (record { x = 35; y = 50 })) ≡ record { look = Some look.Dot; text = []; corners = (35, 50) ∷ [] }
dot_shown = refl

-- a bar of both events begins in the first one's column and ends in the second one's; one that ends in the first one's doesn't
bar_of_both : reach_of (outline_of (Rect (record { x = 2; y = 20 }) 46 9 Edge)).corners ≡ Some (2, 48)
bar_of_both = refl

latest_of_both : latest_start two_of_one (Before 0) ≡ 20
latest_of_both = refl

earliest_of_both : earliest_end two_of_one (After 1) ≡ 20
earliest_of_both = refl

-- two views show a strip of 40
two_views : Fills 0 40 (View (record { x = 0; y = 0 }) 20 90 0 ∷ View (record { x = 0; y = 90 }) 20 90 20 ∷ [])
two_views = (refl, (refl, refl))
