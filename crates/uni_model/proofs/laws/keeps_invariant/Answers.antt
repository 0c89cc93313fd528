use Rattle.uni_model.proofs.LawProofs.{Invariant-reached}
use Rattle.uni_model.proofs.laws.keeps_invariant.Goals as goal

pub returns : goal.returns
returns g c object w = Invariant-reached (g.O.SeqObject.sequential object) w
