use Rattle.uni_script.proofs.Vocabulary.{Memory, Read, Write, refl}
use Rattle.uni_script.proofs.statuses.report_fault.Goals as goal

pub returns-in-Read-clause-told : goal.returns-in-Read-clause-told
returns-in-Read-clause-told g c = record { fault = Read; status_is = refl; prefix = c.tell.ensures.prefix; whole = c.tell.ensures.whole }

pub returns-in-Write-clause-told : goal.returns-in-Write-clause-told
returns-in-Write-clause-told g c = record { fault = Write; status_is = refl; prefix = c.tell-in-Write.ensures.prefix; whole = c.tell-in-Write.ensures.whole }

pub returns-in-Memory-clause-told : goal.returns-in-Memory-clause-told
returns-in-Memory-clause-told g c = record { fault = Memory; status_is = refl; prefix = c.tell-in-Memory.ensures.prefix; whole = c.tell-in-Memory.ensures.whole }
