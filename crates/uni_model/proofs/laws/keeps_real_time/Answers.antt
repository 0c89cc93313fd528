use Rattle.uni_model.proofs.Ordered.{KeepsRealTime-holds}
use Rattle.uni_model.proofs.laws.keeps_real_time.Goals as goal

pub returns : goal.returns
returns g c object n start number events = KeepsRealTime-holds (g.O.SeqObject.sequential object) n start number events
