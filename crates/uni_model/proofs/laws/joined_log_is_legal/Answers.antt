use Rattle.uni_model.proofs.Joined.{JoinsLegalLogs-holds}
use Rattle.uni_model.proofs.laws.joined_log_is_legal.Goals as goal

pub returns : goal.returns
returns g c object n start number events = JoinsLegalLogs-holds (g.O.SeqObject.sequential object) n start number events
