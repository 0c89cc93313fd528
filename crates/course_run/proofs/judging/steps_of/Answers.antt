use Rattle.std.proofs.Common.{Err, Some, inr, subst, ◌≡◌}
use Rattle.run_layout.specs.Subject.{HasRangeFault}
use Rattle.run_layout.specs.declared.subject.PictureFault.TheVariants.{Range as OfRange}
use Rattle.run_layout.proofs.Ranges.{all_too_many}
use Rattle.course_run.proofs.judging.steps_of.Goals as goal

pub returns-in-Err-Range : goal.returns-in-Err-Range
returns-in-Err-Range c =
    let fault = c.in-Err-Range.field-0-0 in
    let told : c.tell_script.result ≡ Err (OfRange fault) = cc in
    let has : HasRangeFault c.all.result fault (Some c.args.script.now) =
    subst (λ end. HasRangeFault c.all.result fault (Some end.now)) c.new-2.ensures.end (c.tell_script.ensures.range fault told) in
    inr (all_too_many fault (Some c.args.script.now) (subst (λ range. HasRangeFault range fault (Some c.args.script.now)) c.all.ensures.range has), c.new-in-Err-Range.ensures.items)
