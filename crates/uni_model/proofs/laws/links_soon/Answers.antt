use Rattle.uni_model.proofs.Soon.{LinksSoon-holds}
use Rattle.uni_model.proofs.laws.links_soon.Goals as goal

pub returns : goal.returns
returns g c object n start number events = LinksSoon-holds (g.O.SeqObject.sequential object) n start number events
