-- A shape that is within a span is on one side of its ends.
use Rattle.std.proofs.Common.{ℕ, ◌+◌, ◌<◌, ◌≡◌, ◌≤◌, arith, subst}
use Rattle.std.proofs.lemmas.List.Elements.{All-weaker}
use Rattle.signs.specs.Signs.{Holds, IsAbove, IsBelow, IsFrom, IsInView, IsLeftOf, IsRightOf, IsWithin, Outline, after, before, high, outline_of}
use Rattle.signs.specs.declared.sign.Span.{Span}
use Rattle.svg_text.specs.declared.shape.Shape.{Shape}

pub left_of : (wide tall : Span) (place : ℕ) (outline : Outline) → IsWithin wide tall outline → wide.to < place → IsLeftOf place outline
left_of wide tall place outline within less = All-weaker (Holds wide tall) (λ corner. corner.0 < place) (λ corner h. omega (arith, h.right, less)) outline.corners within

pub right_of : (wide tall : Span) (place : ℕ) (outline : Outline) → IsWithin wide tall outline → place < wide.from → IsRightOf place outline
right_of wide tall place outline within more = All-weaker (Holds wide tall) (λ corner. place < corner.0) (λ corner h. omega (arith, h.left, more)) outline.corners within

pub is_from : (wide tall : Span) (place : ℕ) (outline : Outline) → IsWithin wide tall outline → place ≤ wide.from → IsFrom place outline
is_from wide tall place outline within more = All-weaker (Holds wide tall) (λ corner. place ≤ corner.0) (λ corner h. omega (arith, h.left, more)) outline.corners within

pub above : (wide tall : Span) (height : ℕ) (outline : Outline) → IsWithin wide tall outline → tall.to ≤ height → IsAbove height outline
above wide tall height outline within less = All-weaker (Holds wide tall) (λ corner. corner.1 ≤ height) (λ corner h. omega (arith, h.bottom, less)) outline.corners within

pub below : (wide tall : Span) (height : ℕ) (outline : Outline) → IsWithin wide tall outline → height ≤ tall.from → IsBelow height outline
below wide tall height outline within more = All-weaker (Holds wide tall) (λ corner. height ≤ corner.1) (λ corner h. omega (arith, h.top, more)) outline.corners within

-- a shape on one of these sides is not cut off
pub in_before : (left width height : ℕ) (shape : Shape) → IsLeftOf left (outline_of shape) → IsInView left width height shape
in_before left width height shape side = before side

pub in_after : (left width height right : ℕ) (shape : Shape) → right ≡ left + width → IsRightOf right (outline_of shape) → IsInView left width height shape
in_after left width height right shape is side = after (subst (λ place. IsRightOf place (outline_of shape)) is side)

pub in_high : (left width height : ℕ) (shape : Shape) → IsAbove height (outline_of shape) → IsInView left width height shape
in_high left width height shape side = high side
