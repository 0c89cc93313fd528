-- The events that are told.
use Rattle.std.specs.Prelude.{List, [], ◌∷◌}
use Rattle.lin_check.specs.declared.event.Event.{Event}
use Rattle.lin_check.specs.declared.event.Event.TheVariants.{Call, Return}
use Rattle.history_text.specs.declared.history.Told.{Told}
use Rattle.history_text.specs.declared.history.Told.TheVariants.{Begins, Ends, Ceases}

abbrev pub events_of : {I R : Type 0} → List (Told I R) → List (Event I R)
events_of [] = []
events_of (Begins p i ∷ tolds) = Call p i ∷ events_of tolds
events_of (Ends p r ∷ tolds) = Return p r ∷ events_of tolds
events_of (Ceases p ∷ tolds) = events_of tolds
