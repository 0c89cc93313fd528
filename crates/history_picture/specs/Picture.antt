-- What a picture of a history is.
use Rattle.std.specs.Prelude.{◌≡◌, ℕ, ◌++◌, ◌<◌, List, [], ◌∷◌, map, Option, Some, None, IfSome, codes, length}
use Rattle.std.specs.List.{All}
use Rattle.signs.specs.Signs.{Places, AreApart, AreInSight, AreShown, AreWithin, Outline, look_of, outline_of, text_of, corners_of}
use Rattle.signs.specs.declared.sign.Look.{Look}
use Rattle.svg_text.specs.declared.paint.Colour.TheVariants.{Vermilion}
use Rattle.svg_text.specs.declared.paint.Paint.TheVariants.{Mark}
use Rattle.svg_text.specs.declared.shape.Shape.{Shape}
use Rattle.svg_text.specs.declared.shape.Shape.TheVariants.{Rect}
use Rattle.svg_text.specs.declared.shape.Drawing.{Drawing}
use Rattle.svg_text.specs.Svg.{svg_text}
use Rattle.history_picture.specs.declared.scene.Bar.{Bar}
use Rattle.history_picture.specs.declared.scene.Scene.{Scene}
use Rattle.history_picture.specs.Parts.{red_parts, scene_parts}

-- ---- a scene that can be drawn

-- a call begins before it takes effect, and takes effect before it returns
pub record IsOrderly (lanes : ℕ) (bar : Bar) : Type 0 where
  pub lane : bar.lane < lanes
  pub returns : IfSome bar.end (λ end. bar.begin < end)
  pub after : IfSome bar.point (λ point. bar.begin < point)
  pub before : IfSome bar.point (λ point. IfSome bar.end (λ end. point < end))

-- a call of the same process begins later only after this one returned
pub record IsOver (bar later : Bar) : Type 0 where
  pub over : later.lane ≡ bar.lane → (end : ℕ) × (bar.end ≡ Some end) × (end < later.begin)

-- the calls of a process are one after the other
abbrev pub AreInTurn : List Bar → Type 0
AreInTurn [] = Unit {0}
AreInTurn (bar ∷ bars) = All (IsOver bar) bars × AreInTurn bars

-- a scene is in order: each of its calls, and those of a process one after the other
pub record IsInOrder (scene : Scene) : Type 0 where
  pub each : All (IsOrderly (length scene.names.items)) scene.bars.items
  pub in_turn : AreInTurn scene.bars.items

-- ---- the picture of it

-- what is painted in red, and what of a shape is looked at in red
abbrev pub red_look : Shape → Option Look
red_look (Rect at width height (Mark Vermilion)) = look_of (Rect at width height (Mark Vermilion))
red_look _ = None

abbrev pub red_outline : Shape → Outline
red_outline shape = record { look = red_look shape; text = text_of shape; corners = corners_of shape }

-- A drawing of a scene: the columns of its moments and the lanes of its processes are apart; its shapes that tell something are those of the
-- scene, each once and in order, and in red that of the call whose return leaves no order; none is hidden, and none passes the edges.
pub record IsDrawingOf (scene : Scene) (drawing : Drawing) : Type 0 where
  pub title : drawing.title.items ≡ scene.title.items
  pub places : Places
  pub apart : AreApart places
  pub shown : AreShown places (scene_parts scene) (map outline_of drawing.shapes.items)
  pub red : AreShown places (red_parts scene) (map red_outline drawing.shapes.items)
  pub in_sight : AreInSight drawing.shapes.items
  pub within : AreWithin drawing.width drawing.height drawing.shapes.items

-- the text of such a drawing
pub record IsPictureOf (scene : Scene) (svg : List ℕ) : Type 0 where
  pub drawing : Drawing
  pub drawn : IsDrawingOf scene drawing
  pub text : svg ≡ svg_text drawing

-- a page with it
abbrev pub page_head : List ℕ
page_head =
    codes "<!DOCTYPE html>\n<html lang=\"en\">\n<head>\n<meta charset=\"utf-8\">\n<meta name=\"viewport\" content=\"width=device-width\">\n<meta name=\"color-scheme\" content=\"light dark\">\n<title>A recorded history</title>\n<style>@media (prefers-color-scheme: dark) { svg { filter: invert(1) hue-rotate(180deg); } }</style>\n</head>\n<body>\n"

abbrev pub page_foot : List ℕ
page_foot = codes "</body>\n</html>\n"

abbrev pub IsPageOf : Scene → List ℕ → Type 0
IsPageOf scene page = (svg : List ℕ) × IsPictureOf scene svg × (page ≡ page_head ++ (svg ++ page_foot))
