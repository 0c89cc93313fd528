use Rattle.unidraw_run.proofs.Vocabulary.{Misdrawn, OfRange, refl, ◌∙◌}
use Rattle.unidraw_run.proofs.CommandLine.{not_some, told_alone, told_of_more}
use Rattle.unidraw_run.proofs.program.report.Goals as goal

pub returns-in-Script-clause-told : goal.returns-in-Script-clause-told
returns-in-Script-clause-told g c = told_of_more _ _ _ _ _ _ c.report_explained.ensures.told (λ none. c.report_explained.ensures.alone (not_some _ none))

pub returns-in-Range-clause-told : goal.returns-in-Range-clause-told
returns-in-Range-clause-told g c = told_alone c.args.form _ (OfRange c.in-Range.fault) _ _ _ _ _ refl (c.as_bytes.ensures.value ∙ c.range_fault_line.ensures) c.tell.ensures.prefix c.tell.ensures.whole

pub returns-in-Misdrawn-clause-told : goal.returns-in-Misdrawn-clause-told
returns-in-Misdrawn-clause-told g c = told_alone c.args.form _ Misdrawn _ _ _ _ _ refl refl c.tell-in-Misdrawn.ensures.prefix c.tell-in-Misdrawn.ensures.whole
