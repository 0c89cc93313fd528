use Rattle.uni_model.proofs.LawProofs.{IsBounded-reached}
use Rattle.uni_model.proofs.laws.is_bounded.Goals as goal

pub returns : goal.returns
returns g c object w = IsBounded-reached (g.O.SeqObject.sequential object) w
