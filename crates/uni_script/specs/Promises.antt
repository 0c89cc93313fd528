-- What a script's events keep.
use Rattle.std.specs.Prelude.{◌≡◌}
use Rattle.uni_model.specs.Worlds.{opened_world, world_after_all, AreAccepted}
use Rattle.uni_model.specs.Universal.{IsUniversal}
use Rattle.uni_script.specs.Objects.{SpokenObject, spoken_of}
use Rattle.uni_script.specs.Meaning.{Session}
use Rattle.uni_script.specs.Scripts.{ScriptSession}

-- The events of a session could all come, their replay from its opening leads to its world, and the main law holds of them: calls and
-- replies are those of an atomic object, each prefix of the events is within the bound, and trims change nothing that they show.
pub record IsPromised {S I R : Type 0} (o : SpokenObject S I R) (b : Session S I R) : Type 0 where
  pub accepted : AreAccepted o.object (opened_world b.processes o.object.initial b.first) b.events
  pub replay : b.world ≡ world_after_all o.object (opened_world b.processes o.object.initial b.first) b.events
  pub universal : IsUniversal o.object b.processes o.object.initial b.first b.events

-- so are those of the session of a script
abbrev pub IsPromisedSession : ScriptSession → Type 0
IsPromisedSession b = IsPromised (spoken_of b.object) b.session
