use Rattle.uni_model.proofs.Kept.{Invariant-world_after}
use Rattle.uni_model.proofs.laws.event_keeps_invariant.Goals as goal

pub returns : goal.returns
returns g c object w e ok inv = Invariant-world_after (g.O.SeqObject.sequential object) w e ok inv
