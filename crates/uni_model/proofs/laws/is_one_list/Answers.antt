use Rattle.uni_model.proofs.OneLists.{HasOneList-held}
use Rattle.uni_model.proofs.laws.is_one_list.Goals as goal

pub returns : goal.returns
returns g c object w inv = HasOneList-held (g.O.SeqObject.sequential object) w inv
