use Rattle.std.proofs.Common.{rules}
use Rattle.uni_core.proofs.stage.Stage.place.Goals as goal

pub returns-in-ReadAnnounce : goal.returns-in-ReadAnnounce
returns-in-ReadAnnounce g c = search rules
