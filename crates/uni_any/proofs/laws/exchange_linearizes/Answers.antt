use Rattle.uni_any.proofs.Bringing.{brings_move}
use Rattle.uni_any.proofs.laws.exchange_linearizes.Goals as goal

pub returns : goal.returns
returns g c o n id tries inv image v alone processes stage = brings_move g.O.SeqObject.sequential o n id v alone processes inv tries image stage
