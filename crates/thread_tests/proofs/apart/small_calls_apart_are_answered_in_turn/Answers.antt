use Rattle.uni_small.proofs.Linearity.{linearized}
use Rattle.thread_tests.proofs.InTurn.{answered_in_turn}
use Rattle.thread_tests.proofs.apart.small_calls_apart_are_answered_in_turn.Goals as goal

pub returns : goal.returns
returns g c o sizes fits e told apart =
    let object = (g.O.SmallObject.meaning o).object in
    let its = linearized g.O.SmallObject.meaning o sizes fits (g.met.O.SmallObject.steady o) e in
    answered_in_turn object told _ its.atomic its.accepted apart
