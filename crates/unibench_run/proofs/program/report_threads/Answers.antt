use Rattle.unibench_run.proofs.Vocabulary.{CallsTooMany, Memory, NoSuchObject, Some, Write, ap, arith, refl}
use Rattle.unibench_run.proofs.program.report_threads.Goals as goal

pub returns-in-NoSuchObject-clause-told : goal.returns-in-NoSuchObject-clause-told
returns-in-NoSuchObject-clause-told g c = record { fault = NoSuchObject; status_is = (refl, λ two. ap Some c.in-NoSuchObject.is); prefix = c.tell.ensures.prefix; whole = c.tell.ensures.whole }

pub returns-in-CallsTooMany-clause-told : goal.returns-in-CallsTooMany-clause-told
returns-in-CallsTooMany-clause-told g c = record { fault = CallsTooMany; status_is = (refl, λ two. ap Some c.in-CallsTooMany.is); prefix = c.tell-in-CallsTooMany.ensures.prefix; whole = c.tell-in-CallsTooMany.ensures.whole }

pub returns-in-Write-clause-told : goal.returns-in-Write-clause-told
returns-in-Write-clause-told g c = record { fault = Write; status_is = (refl, λ two. absurd (omega arith)); prefix = c.tell-in-Write.ensures.prefix; whole = c.tell-in-Write.ensures.whole }

pub returns-in-Memory-clause-told : goal.returns-in-Memory-clause-told
returns-in-Memory-clause-told g c = record { fault = Memory; status_is = (refl, λ two. absurd (omega arith)); prefix = c.tell-in-Memory.ensures.prefix; whole = c.tell-in-Memory.ensures.whole }
