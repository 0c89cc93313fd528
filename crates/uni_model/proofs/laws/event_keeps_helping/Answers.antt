use Rattle.uni_model.proofs.Counted.{CountsSteps-world_after}
use Rattle.uni_model.proofs.Bounded.{HelpingInvariant-world_after}
use Rattle.uni_model.proofs.laws.event_keeps_helping.Goals as goal

pub returns : goal.returns
returns g c object w e ok inv counts = (HelpingInvariant-world_after (g.O.SeqObject.sequential object) w e ok counts inv, CountsSteps-world_after (g.O.SeqObject.sequential object) w e ok (inv.0, inv.1, inv.2) counts)
