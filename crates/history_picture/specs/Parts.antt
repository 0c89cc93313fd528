-- The shapes that the picture of a history has, from the lowest on: where each stands, without a number of pixels.
use Rattle.std.specs.Prelude.{ℕ, ◌+◌, List, [], ◌∷◌, ◌++◌, map, Option, Some, None, slice_get}
use Rattle.std.specs.List.{flat_map}
use Rattle.signs.specs.Signs.{Meaning}
use Rattle.signs.specs.declared.sign.Look.{Look}
use Rattle.signs.specs.declared.sign.Look.TheVariants as look
use Rattle.signs.specs.declared.sign.Edge.{Edge}
use Rattle.signs.specs.declared.sign.Edge.TheVariants as edge
use Rattle.history_picture.specs.declared.scene.Bar.{Bar}
use Rattle.history_picture.specs.declared.scene.Scene.{Scene}
use Rattle.std.specs.Prelude.{Vec}
use Rattle.std.specs.declared.alloc.Global.{Global}

-- a shape in a lane, between two edges of columns: moment m has column m
abbrev pub part : Look → Edge × Edge → (lane : ℕ) → (text : List ℕ) → Meaning
part look columns lane text = record { look = look; columns = columns; lanes = Some (lane, lane); text = text }

-- a text above or below all lanes
abbrev pub line_part : List ℕ → Meaning
line_part text = record { look = look.Text; columns = (edge.Start, edge.End); lanes = None; text = text }

-- a call reaches from its begin to its return; one that doesn't return is open at the end: its left, upper and lower edge
abbrev pub box_parts : (lane begin : ℕ) → Option ℕ → List Meaning
box_parts lane begin (Some end) = part look.Bar (edge.Before begin, edge.After end) lane [] ∷ []
box_parts lane begin None =
    part look.Edge (edge.Before begin, edge.End) lane [] ∷ part look.Edge (edge.Before begin, edge.End) lane []
    ∷ part look.Edge (edge.Before begin, edge.End) lane [] ∷ []

-- a dot where it takes effect
abbrev pub dot_parts : (lane : ℕ) → Option ℕ → List Meaning
dot_parts lane (Some point) = part look.Dot (edge.Before point, edge.After point) lane [] ∷ []
dot_parts lane None = []

abbrev pub bar_parts : Bar → List Meaning
bar_parts bar =
    box_parts bar.lane bar.begin bar.end
    ++ (part look.Text (edge.Before bar.begin, edge.After bar.begin) bar.lane bar.text.items ∷ dot_parts bar.lane bar.point)

-- the names of processes, from this lane on
abbrev pub names_from : (lane : ℕ) → List (Vec ℕ Global) → List Meaning
names_from lane [] = []
names_from lane (name ∷ names) = part look.Text (edge.Start, edge.Before 0) lane name.items ∷ names_from (lane + 1) names

abbrev pub scene_parts : Scene → List Meaning
scene_parts scene =
    line_part scene.title.items ∷ names_from 0 scene.names.items ++ flat_map bar_parts scene.bars.items
    ++ map (λ note. line_part note.items) scene.notes.items

-- what is in red: the bar of the call whose return leaves no order
abbrev pub bar_in_red : Option Bar → List Meaning
bar_in_red (Some bar) = box_parts bar.lane bar.begin bar.end
bar_in_red None = []

abbrev pub bad_bar : Scene → Option ℕ → Option Bar
bad_bar scene (Some place) = slice_get scene.bars.items place
bad_bar scene None = None

abbrev pub red_parts : Scene → List Meaning
red_parts scene = bar_in_red (bad_bar scene scene.bad)
