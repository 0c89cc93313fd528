-- The frontier of a world, and the floor of a call.
use Rattle.std.specs.Prelude.{ℕ, zero, suc, max, List, [], ◌∷◌, Option, None, Some, Bool, false, if◌then◌else◌}
use Rattle.seq_object.specs.Sequential.{Sequential}
use Rattle.uni_model.specs.Places.{Name, name_eq, head_seq}
use Rattle.uni_model.specs.Stages.{Stage, Pending}
use Rattle.uni_model.specs.Stages.Stage.{Announce}
use Rattle.uni_model.specs.Worlds.{WorldOf, Event, world_after}
use Rattle.uni_model.specs.Worlds.Event.{Step}

-- the greatest of f below n, or 0
abbrev pub greatest_below : ℕ → (ℕ → ℕ) → ℕ
greatest_below zero f = 0
greatest_below (suc p) f = max (greatest_below p f) (f p)

-- the greatest number that the cell of a head entry has
abbrev pub frontier : {S I R : Type 0} → WorldOf S I R → ℕ
frontier w = greatest_below w.n (head_seq w.memory)

abbrev pub announces_at : Bool → Stage → Bool
announces_at same Announce = same
announces_at same _ = false

-- the next step announces this cell
abbrev pub announces : Name → Option Pending → Bool
announces x None = false
announces x (Some call) = announces_at (name_eq x call.mine) call.stage

-- the floor of the call that a cell was made for: the frontier at the step that announces it; nothing before that
abbrev pub floor_of : {S I R : Type 0} → Sequential S I R → Name → WorldOf S I R → List (Event I) → Option ℕ
floor_of object x w [] = None
floor_of object x w (Step p ∷ es) =
    if announces x (w.call p) then Some (frontier w) else floor_of object x (world_after object w (Step p)) es
floor_of object x w (e ∷ es) = floor_of object x (world_after object w e) es
