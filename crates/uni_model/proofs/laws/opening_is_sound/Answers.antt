use Rattle.uni_model.proofs.Counted.{CountsSteps-opened_world}
use Rattle.uni_model.proofs.Bounded.{HelpingInvariant-opened_world}
use Rattle.uni_model.proofs.laws.opening_is_sound.Goals as goal

pub returns : goal.returns
returns g c object n start number positive = (HelpingInvariant-opened_world (g.O.SeqObject.sequential object) n start number positive, CountsSteps-opened_world (g.O.SeqObject.sequential object) n start number)
