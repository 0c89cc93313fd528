use Rattle.uni_model.proofs.SoleRun.{TakesOneTurn-holds}
use Rattle.uni_model.proofs.laws.takes_one_turn_alone.Goals as goal

pub returns : goal.returns
returns g c object w p reached over called alone = TakesOneTurn-holds (g.O.SeqObject.sequential object) w p reached over called alone
