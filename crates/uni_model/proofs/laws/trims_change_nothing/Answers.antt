use Rattle.uni_model.proofs.RenamedRun.{TrimsChangeNothing-holds}
use Rattle.uni_model.proofs.laws.trims_change_nothing.Goals as goal

pub returns : goal.returns
returns g c object n start number events = TrimsChangeNothing-holds (g.O.SeqObject.sequential object) n start number events
