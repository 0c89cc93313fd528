use Rattle.uni_model.proofs.Project.{IsLocal-holds}
use Rattle.uni_model.proofs.laws.is_local.Goals as goal

pub returns : goal.returns
returns g c objects start history = IsLocal-holds (λ x. g.O.SeqObject.sequential (objects x)) start history
