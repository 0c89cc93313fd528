use Rattle.uni_model.proofs.Linearized.{IsLinearizable-holds}
use Rattle.uni_model.proofs.laws.is_linearizable.Goals as goal

pub returns : goal.returns
returns g c object n start number events = IsLinearizable-holds (g.O.SeqObject.sequential object) n start number events
