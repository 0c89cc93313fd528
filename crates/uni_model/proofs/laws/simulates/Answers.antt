use Rattle.uni_model.proofs.LawProofs.{Simulates-holds}
use Rattle.uni_model.proofs.laws.simulates.Goals as goal

pub returns : goal.returns
returns g c object w e = Simulates-holds (g.O.SeqObject.sequential object) w e
