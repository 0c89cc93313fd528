use Rattle.uni_model.proofs.Placed.{ObservesCompletion-holds}
use Rattle.uni_model.proofs.laws.observes_completion.Goals as goal

pub returns : goal.returns
returns g c object n start number events = ObservesCompletion-holds (g.O.SeqObject.sequential object) n start number events
