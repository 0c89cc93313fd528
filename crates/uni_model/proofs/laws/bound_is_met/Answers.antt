use Rattle.uni_model.proofs.BoundMet.{BoundIsMet-holds}
use Rattle.uni_model.proofs.laws.bound_is_met.Goals as goal

pub returns : goal.returns
returns g c object n start number i = BoundIsMet-holds (g.O.SeqObject.sequential object) n start number i
