use Rattle.uni_model.proofs.Joined.{JoinedLogGrows-holds}
use Rattle.uni_model.proofs.laws.joined_log_only_grows.Goals as goal

pub returns : goal.returns
returns g c object n start number events = JoinedLogGrows-holds (g.O.SeqObject.sequential object) n start number events
