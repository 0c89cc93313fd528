use Rattle.uni_model.proofs.Strong.{IsStronglyLinearizable-holds}
use Rattle.uni_model.proofs.laws.is_strongly_linearizable.Goals as goal

pub returns : goal.returns
returns g c object n start number = IsStronglyLinearizable-holds (g.O.SeqObject.sequential object) n start number
