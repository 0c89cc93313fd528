use Rattle.unidraw_run.proofs.Vocabulary.{AppendsPrefix, inr, refl, subst}
use Rattle.unidraw_run.proofs.program.write_picture.Goals as goal

pub returns-in-Ok-clause-drawn : goal.returns-in-Ok-clause-drawn
returns-in-Ok-clause-drawn g c =
    let part = subst (AppendsPrefix (g.O.TextOut.contents c.args.output.now) (g.O.TextOut.contents c.write_all.new.end)) c.as_slice.ensures.value c.in-Err-write_all.ensures.prefix in
    inr (c.in-Ok.text.items, (c.in-Ok.text, c.in-Ok.is, refl), part)
