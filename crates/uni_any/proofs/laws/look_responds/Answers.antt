use Rattle.uni_any.proofs.Learning.{learns_move}
use Rattle.uni_any.proofs.laws.look_responds.Goals as goal

pub returns : goal.returns
returns g c o n id tries r inv v alone processes inside reads = learns_move g.O.SeqObject.sequential o n id v alone processes inv tries r inside reads
