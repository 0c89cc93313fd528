use Rattle.uni_model.proofs.Placed.{AgreesWithCompletion-holds, AgreesInOrder-holds}
use Rattle.uni_model.proofs.laws.agrees_with_completion.Goals as goal

pub returns-clause-history : goal.returns-clause-history
returns-clause-history g c object start history = AgreesWithCompletion-holds (g.O.SeqObject.sequential object) start history

pub returns-clause-order : goal.returns-clause-order
returns-clause-order g c object start history order = AgreesInOrder-holds (g.O.SeqObject.sequential object) start history order
