-- What trims change of a run: neither its history, nor its joined log, nor its counts.
use Rattle.std.specs.Prelude.{◌≡◌, List}
use Rattle.seq_object.specs.Sequential.{Sequential}
use Rattle.uni_model.specs.Worlds.{WorldOf, Event, world_after_all, AreAccepted, without_trims}
use Rattle.uni_model.specs.Linearizable.{observed_in}
use Rattle.uni_model.specs.History.{log_of_run}

-- two worlds differ at most in their memory, their pending calls and where their eras begin: all counts are the same
abbrev pub CountsSame : {S I R : Type 0} → WorldOf S I R → WorldOf S I R → Type 0
CountsSame w u = w ≡ record u { memory = w.memory; call = w.call; first = w.first }

-- The same events without the trims are accepted too, from the same world, with the same history of calls and responses, the
-- same joined log and the same counts.
pub record IsSameUntrimmed {S I R : Type 0} (object : Sequential S I R) (w : WorldOf S I R) (events : List (Event I)) : Type 0 where
  pub accepted : AreAccepted object w (without_trims events)
  pub history : observed_in object w events ≡ observed_in object w (without_trims events)
  pub joined : log_of_run object w events ≡ log_of_run object w (without_trims events)
  pub counts : CountsSame (world_after_all object w events) (world_after_all object w (without_trims events))
