use Rattle.uni_script.proofs.Vocabulary.{Memory, refl}
use Rattle.uni_script.proofs.statuses.report_line.Goals as goal

pub returns-clause-told : goal.returns-clause-told
returns-clause-told g c = record { fault = Memory; status_is = refl; prefix = c.tell-in-Err.ensures.prefix; whole = c.tell-in-Err.ensures.whole }
