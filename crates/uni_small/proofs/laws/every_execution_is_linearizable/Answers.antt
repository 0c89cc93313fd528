use Rattle.uni_model.proofs.Executions.{keeps_order}
use Rattle.uni_small.proofs.Linearity.{linearized}
use Rattle.uni_small.specs.Execution.{CanTake, acts_of, after}
use Rattle.uni_small.proofs.laws.every_execution_is_linearizable.Goals as goal

pub returns-clause-linearized : goal.returns-clause-linearized
returns-clause-linearized g c o sizes fits e = linearized g.O.SmallObject.meaning o sizes fits (g.met.O.SmallObject.steady o) e

pub returns-clause-strongly : goal.returns-clause-strongly
returns-clause-strongly g c o sizes e more =
    let object = (g.O.SmallObject.meaning o).object in
    keeps_order sizes.processes (CanTake object sizes) (after object sizes) (acts_of object sizes) e more
