use Rattle.uni_model.proofs.LawProofs.{EndsAtItsCell-holds}
use Rattle.uni_model.proofs.laws.ends_at_its_cell.Goals as goal

pub returns : goal.returns
returns g c object w p reached call is turns c_seq mine_seq at = EndsAtItsCell-holds (g.O.SeqObject.sequential object) w p reached call is turns c_seq mine_seq at
