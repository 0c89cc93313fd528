use Rattle.uni_model.proofs.Linearizable.{ObservesLinearizable-holds}
use Rattle.uni_model.proofs.laws.observes_linearizable.Goals as goal

pub returns : goal.returns
returns g c object n start number events = ObservesLinearizable-holds (g.O.SeqObject.sequential object) n start number events
