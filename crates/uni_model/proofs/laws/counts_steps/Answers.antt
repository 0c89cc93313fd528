use Rattle.uni_model.proofs.LawProofs.{CountsSteps-reached}
use Rattle.uni_model.proofs.laws.counts_steps.Goals as goal

pub returns : goal.returns
returns g c object w = CountsSteps-reached (g.O.SeqObject.sequential object) w
