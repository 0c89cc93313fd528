use Rattle.run_tell.proofs.Vocabulary.{Err, ◌≡◌}
use Rattle.run_tell.proofs.Tellings.{fits_other}
use Rattle.run_layout.specs.declared.subject.PictureFault.TheVariants.{Range as OfRange}
use Rattle.run_tell.proofs.page.text_of_run.Goals as goal

pub returns-in-Ok-clause-fits : goal.returns-in-Ok-clause-fits
returns-in-Ok-clause-fits g c = fits_other c.tell_run.result _ c.tell_run.ensures.range (λ e is. cc)

pub returns-in-Err-Range-clause-range : goal.returns-in-Err-Range-clause-range
returns-in-Err-Range-clause-range g c = λ e is. (c.tell_run.ensures.range e).0 (let told : c.tell_run.result ≡ Err (OfRange e) = cc in told)
