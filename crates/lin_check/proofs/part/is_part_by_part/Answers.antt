use Rattle.lin_check.proofs.Parts.{IsPartByPart-holds}
use Rattle.lin_check.proofs.part.is_part_by_part.Goals as goal

pub returns : goal.returns
returns g c object history = IsPartByPart-holds (g.O.SeqObject.sequential object) g.O.Checkable.part (g.met.O.Checkable.parts object) history
