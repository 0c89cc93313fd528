use Rattle.uni_script.proofs.Finishing.{FinishReturns-reached}
use Rattle.uni_script.proofs.laws.finish_returns.Goals as goal

pub returns : goal.returns
returns g c object b p r = FinishReturns-reached (record { object = g.O.SeqObject.sequential object; language = g.O.Spoken.language }) p b r
