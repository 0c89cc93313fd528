use Rattle.uni_model.proofs.Announced.{HasFloorOnceAnnounced-holds}
use Rattle.uni_model.proofs.laws.has_floor.Goals as goal

pub returns : goal.returns
returns g c object n start number events = HasFloorOnceAnnounced-holds (g.O.SeqObject.sequential object) n start number events
