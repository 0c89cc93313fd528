use Rattle.run_play.proofs.Vocabulary.{Eras, Refused, Script, TooManyWorlds, refl}
use Rattle.run_play.proofs.program.report.Goals as goal

pub returns-in-Script-clause-told : goal.returns-in-Script-clause-told
returns-in-Script-clause-told g c =
    let told = c.report_fault.ensures.told in
    record { fault = Script told.fault; status_is = told.status_is; prefix = told.prefix; whole = told.whole }

pub returns-in-Refused-clause-told : goal.returns-in-Refused-clause-told
returns-in-Refused-clause-told g c = record { fault = Refused; status_is = refl; prefix = c.tell.ensures.prefix; whole = c.tell.ensures.whole }

pub returns-in-Eras-clause-told : goal.returns-in-Eras-clause-told
returns-in-Eras-clause-told g c = record { fault = Eras; status_is = refl; prefix = c.tell-in-Eras.ensures.prefix; whole = c.tell-in-Eras.ensures.whole }

pub returns-in-TooManyWorlds-clause-told : goal.returns-in-TooManyWorlds-clause-told
returns-in-TooManyWorlds-clause-told g c =
    record { fault = TooManyWorlds; status_is = refl; prefix = c.tell-in-TooManyWorlds.ensures.prefix; whole = c.tell-in-TooManyWorlds.ensures.whole }
