use Rattle.run_tell.proofs.Vocabulary.{Appends, AppendsPrefix, ap, append-nil, subst, sym, ◌++◌, ◌∙◌}
use Rattle.run_tell.proofs.Tellings.{Moves-start}
use Rattle.run_tell.proofs.order.write_from.Goals as goal

pub returns-then-len-least-clause-moved : goal.returns-then-len-least-clause-moved
returns-then-len-least-clause-moved g c = Moves-start _ c.args.text.now.items

pub returns-in-Ok-clause-moved : goal.returns-in-Ok-clause-moved
returns-in-Ok-clause-moved g c =
    let text = c.args.text.now.items in
    (text, subst (Appends (g.W.TextOut.contents c.args.out.now) (g.W.TextOut.contents c.write_all.new.end)) c.as_slice.ensures.value c.in-Ok.ensures.ok, sym (append-nil text) ∙ ap (λ t. text ++ t) (sym c.clear.ensures.items))

pub returns-in-Err-clause-prefix : goal.returns-in-Err-clause-prefix
returns-in-Err-clause-prefix g c = subst (AppendsPrefix (g.W.TextOut.contents c.args.out.now) (g.W.TextOut.contents c.write_all.new.end)) c.as_slice.ensures.value c.in-Err.ensures.prefix
