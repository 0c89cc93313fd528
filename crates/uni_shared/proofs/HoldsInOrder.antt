-- The events that holds store are accepted, one after another.
use Rattle.std.proofs.Common.{List, None, Option, Some, [], ◌∷◌}
use Rattle.seq_object.specs.Sequential.{Sequential}
use Rattle.uni_model.specs.Worlds.{AreAccepted, Event, WorldOf, world_after}
use Rattle.uni_shared.specs.Holds.{AreHolds, stored}

pub accepted : {S I R : Type 0} (object : Sequential S I R) (w : WorldOf S I R) (holds : List (Option (Event I))) → AreHolds object w holds → AreAccepted object w (stored holds)
accepted object w [] each = tt
accepted object w (None ∷ holds) each = accepted object w holds each
accepted object w (Some e ∷ holds) each = (each.0, accepted object (world_after object w e) holds each.1)
