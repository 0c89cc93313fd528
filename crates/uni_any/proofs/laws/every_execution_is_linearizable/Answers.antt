use Rattle.uni_any.proofs.Executing.{linearized}
use Rattle.uni_any.proofs.laws.every_execution_is_linearizable.Goals as goal
use Rattle.uni_any.specs.Execution.{CanTake, acts_of, after}
use Rattle.uni_model.proofs.Executions.{keeps_order}

pub returns-clause-linearized : goal.returns-clause-linearized
returns-clause-linearized g c o n some most e = linearized g.O.SeqObject.sequential o n (some, most) e

pub returns-clause-strongly : goal.returns-clause-strongly
returns-clause-strongly g c o n e more =
    keeps_order n (CanTake (g.O.SeqObject.sequential o) n) (after (g.O.SeqObject.sequential o) n) (acts_of (g.O.SeqObject.sequential o) n) e more
