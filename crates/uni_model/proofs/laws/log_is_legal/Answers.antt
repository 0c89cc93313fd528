use Rattle.uni_model.proofs.OneLists.{HasLegalLog-held}
use Rattle.uni_model.proofs.laws.log_is_legal.Goals as goal

pub returns : goal.returns
returns g c object w inv = HasLegalLog-held (g.O.SeqObject.sequential object) w inv
