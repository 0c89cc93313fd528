use Rattle.uni_model.proofs.Joined.{EraLeaves-holds, EraOfRunLeaves-holds}
use Rattle.uni_model.proofs.laws.era_leaves_anchor.Goals as goal

pub returns-clause-era : goal.returns-clause-era
returns-clause-era g c object w n inv quiet start anchor = EraLeaves-holds (g.O.SeqObject.sequential object) w n inv quiet start anchor

pub returns-clause-run : goal.returns-clause-run
returns-clause-run g c object n start number events next_n = EraOfRunLeaves-holds (g.O.SeqObject.sequential object) n start number events next_n
