use Rattle.uni_model.proofs.Universal.{RunIsUniversal-holds}
use Rattle.uni_model.proofs.laws.is_universal.Goals as goal

pub returns : goal.returns
returns g c object n start number events = RunIsUniversal-holds (g.O.SeqObject.sequential object) n start number events
