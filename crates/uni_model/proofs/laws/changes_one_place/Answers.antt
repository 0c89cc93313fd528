use Rattle.uni_model.proofs.LawProofs.{StepIsLocal-holds}
use Rattle.uni_model.proofs.laws.changes_one_place.Goals as goal

pub returns : goal.returns
returns g c object w p call = StepIsLocal-holds (g.O.SeqObject.sequential object) w p call
