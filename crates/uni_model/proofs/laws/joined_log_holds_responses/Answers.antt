use Rattle.uni_model.proofs.Responses.{LogsResponses-holds}
use Rattle.uni_model.proofs.laws.joined_log_holds_responses.Goals as goal

pub returns : goal.returns
returns g c object n start number events = LogsResponses-holds (g.O.SeqObject.sequential object) n start number events
