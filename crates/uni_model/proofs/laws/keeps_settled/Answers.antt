use Rattle.uni_model.proofs.LawProofs.{SettledStays-holds}
use Rattle.uni_model.proofs.laws.keeps_settled.Goals as goal

pub returns : goal.returns
returns g c object w e = SettledStays-holds (g.O.SeqObject.sequential object) w e
