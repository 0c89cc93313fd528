use Rattle.uni_model.proofs.Kept.{Grows-world_after}
use Rattle.uni_model.proofs.laws.event_keeps_settled.Goals as goal

pub returns : goal.returns
returns g c object w e ok inv stays = Grows-world_after (g.O.SeqObject.sequential object) w e inv ok stays
