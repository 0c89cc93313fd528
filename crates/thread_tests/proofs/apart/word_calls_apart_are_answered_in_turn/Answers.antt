use Rattle.std.proofs.Common.{arith, ◌∙◌}
use Rattle.uni_model.proofs.Linearizable.{ObservesLinearizable-holds}
use Rattle.uni_model.proofs.Placed.{ObservesCompletion-holds}
use Rattle.uni_model.proofs.Strong.{IsStronglyLinearizable-holds}
use Rattle.uni_words.specs.Execution.{events}
use Rattle.uni_words.proofs.Executing.{are_strongly}
use Rattle.thread_tests.proofs.InTurn.{answered_in_turn}
use Rattle.thread_tests.proofs.apart.word_calls_apart_are_answered_in_turn.Goals as goal

pub returns : goal.returns
returns g c o n row narrow e told apart =
    let object = g.O.WordObject.sequential o in
    let all = are_strongly object n row narrow (IsStronglyLinearizable-holds object n object.initial 1) (λ es accepted. (ObservesCompletion-holds object n object.initial 1 es (omega arith) accepted).0) in
    let its = ObservesLinearizable-holds object n object.initial 1 (events object n row e) (omega arith) (all.linearized e).accepted in
    answered_in_turn object told its.1.0 its.1.1 its.1.3 (its.1.2 ∙ apart)
