use Rattle.unidraw_run.proofs.Vocabulary.{IsDrawn, ap, subst}
use Rattle.unidraw_run.proofs.Drawing.{IsDrawn-all, IsDrawn-fault, status_3}
use Rattle.unidraw_run.proofs.program.draw.Goals as goal

pub returns-in-Ok-clause-drawn : goal.returns-in-Ok-clause-drawn
returns-in-Ok-clause-drawn g c =
    subst (λ left. IsDrawn c.args.request.form left (g.O.TextOut.contents c.args.output.now) (g.O.TextOut.contents c.draw_form.new.output) 0) c.keep_if.ensures.remaining
    (IsDrawn-all _ _ _ _ c.draw_form.result _ c.in-Ok.is c.draw_form.ensures.drawn)

pub returns-in-Err-clause-drawn : goal.returns-in-Err-clause-drawn
returns-in-Err-clause-drawn g c =
    let of = c.draw_form.ensures in
    subst (λ left. IsDrawn c.args.request.form left (g.O.TextOut.contents c.args.output.now) (g.O.TextOut.contents c.draw_form.new.output) c.report.result) c.keep_if.ensures.remaining
    (IsDrawn-fault _ _ _ _ _ c.draw_form.result c.in-Err.fault c.in-Err.is of.drawn (λ e is before. ap g.O.TextOut.contents (of.unwritten e is before)) of.range of.fault c.report.ensures.status)

pub returns-in-Err-clause-written : goal.returns-in-Err-clause-written
returns-in-Err-clause-written g c = λ failed. status_3 c.draw_form.result c.in-Err.fault _ c.in-Err.is (c.draw_form.ensures.written failed) c.report.ensures.status

pub returns-in-Err-2-clause-drawn : goal.returns-in-Err-2-clause-drawn
returns-in-Err-2-clause-drawn g c =
    let of = c.draw_form.ensures in
    subst (λ left. IsDrawn c.args.request.form left (g.O.TextOut.contents c.args.output.now) (g.O.TextOut.contents c.draw_form.new.output) c.report-in-Err-2.result) c.keep_if.ensures.remaining
    (IsDrawn-fault _ _ _ _ _ c.draw_form.result c.in-Err.fault c.in-Err.is of.drawn (λ e is before. ap g.O.TextOut.contents (of.unwritten e is before)) of.range of.fault c.report-in-Err-2.ensures.status)

pub returns-in-Err-2-clause-written : goal.returns-in-Err-2-clause-written
returns-in-Err-2-clause-written g c = λ failed. status_3 c.draw_form.result c.in-Err.fault _ c.in-Err.is (c.draw_form.ensures.written failed) c.report-in-Err-2.ensures.status
