use Rattle.uni_model.specs.Worlds.{opened_world}
use Rattle.uni_model.proofs.Universal.{RunIsUniversal-holds}
use Rattle.uni_shared.specs.Holds.{stored}
use Rattle.uni_shared.proofs.HoldsInOrder.{accepted}
use Rattle.uni_shared.proofs.laws.holds_are_a_run.Goals as goal

pub returns-clause-run : goal.returns-clause-run
returns-clause-run g c object n start number holds each = accepted (g.O.SeqObject.sequential object) (opened_world n start number) holds each

pub returns-clause-universal : goal.returns-clause-universal
returns-clause-universal g c object n start number holds positive each =
    RunIsUniversal-holds (g.O.SeqObject.sequential object) n start number (stored holds) positive (accepted (g.O.SeqObject.sequential object) (opened_world n start number) holds each)
