use Rattle.uni_script.proofs.Vocabulary.{Appends, AppendsPrefix, ap, append-nil, subst, sym, ◌++◌, ◌∙◌}
use Rattle.uni_script.proofs.driver.write_text.Goals as goal

pub returns-in-Ok-clause-moved : goal.returns-in-Ok-clause-moved
returns-in-Ok-clause-moved g c =
    let text = c.args.text.now.items in
    (text, subst (Appends (g.W.TextOut.contents c.args.writer.now) (g.W.TextOut.contents c.write_all.new.end)) c.as_slice.ensures.value c.in-Ok.ensures.ok, sym (append-nil text) ∙ ap (λ t. text ++ t) (sym c.clear.ensures.items))

pub returns-in-Err-clause-prefix : goal.returns-in-Err-clause-prefix
returns-in-Err-clause-prefix g c = subst (AppendsPrefix (g.W.TextOut.contents c.args.writer.now) (g.W.TextOut.contents c.write_all.new.end)) c.as_slice.ensures.value c.in-Err.ensures.prefix
