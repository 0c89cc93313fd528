-- Holds of the lock, one after another, in whatever order threads get it: each stores one event, or none.
use Rattle.std.specs.Prelude.{◌≡◌, ℕ, List, [], ◌∷◌, Option, None, Some, refl}
use Rattle.seq_object.specs.Sequential.{Sequential}
use Rattle.uni_model.specs.Worlds.{Event, IsAccepted, WorldOf, world_after}
use Rattle.uni_model.specs.Worlds.Event.{Call, Step}

-- the events that they store, in the order of the holds
abbrev pub stored : {I : Type 0} → List (Option (Event I)) → List (Event I)
stored [] = []
stored (None ∷ holds) = stored holds
stored (Some e ∷ holds) = e ∷ stored holds

-- each stores an event that is accepted in the world that it finds, or none
abbrev pub AreHolds : {S I R : Type 0} → Sequential S I R → WorldOf S I R → List (Option (Event I)) → Type 0
AreHolds object w [] = Unit {0}
AreHolds object w (None ∷ holds) = AreHolds object w holds
AreHolds object w (Some e ∷ holds) = IsAccepted w e × AreHolds object (world_after object w e) holds

-- a call begins, a second one of its process is refused, and the first one takes a step
sample-stored : stored {I = ℕ} (Some (Call 0 5) ∷ None ∷ Some (Step 0) ∷ []) ≡ Call 0 5 ∷ Step 0 ∷ []
sample-stored = refl
