use Rattle.uni_model.proofs.LawProofs.{accepts}
use Rattle.uni_model.proofs.laws.event_is_atomic.Goals as goal

pub returns : goal.returns
returns g c object w e ok inv stays a shows = accepts (g.O.SeqObject.sequential object) w e inv ok stays a shows
