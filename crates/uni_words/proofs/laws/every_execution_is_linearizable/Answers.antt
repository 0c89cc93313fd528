use Rattle.std.proofs.Common.{arith}
use Rattle.uni_model.proofs.Placed.{ObservesCompletion-holds}
use Rattle.uni_model.proofs.Strong.{IsStronglyLinearizable-holds}
use Rattle.uni_words.proofs.Executing.{are_strongly}
use Rattle.uni_words.proofs.laws.every_execution_is_linearizable.Goals as goal

pub returns : goal.returns
returns g c o n row narrow =
    let object = g.O.WordObject.sequential o in
    are_strongly object n row narrow (IsStronglyLinearizable-holds object n object.initial 1) (λ es accepted. (ObservesCompletion-holds object n object.initial 1 es (omega arith) accepted).0)
