use Rattle.uni_script.proofs.Vocabulary.{answer_text, ap, spoken, subst, world_of, ◌++◌, ◌∙◌, ◌≡◌}
use Rattle.uni_script.proofs.commands.make.Goals as goal

pub returns-clause-text : goal.returns-clause-text
returns-clause-text g c =
    let answer = c.in_ok-answer.answer in
    let pushed = subst (λ w. c.push_answer.new.text.items ≡ c.args.text.now.items ++ answer_text (spoken g.O.SeqObject.sequential g.O.Spoken.language w.object) (world_of w) answer) c.world.ensures c.in_ok-push_answer.ensures in
    pushed
    ∙ ap (λ object. c.args.text.now.items ++ answer_text (spoken g.O.SeqObject.sequential g.O.Spoken.language object) (world_of c.answer_to.new.session.world) answer) c.in_ok-answer.ensures.object
    ∙ ap (λ t. c.args.text.now.items ++ t) c.in_ok-answer.ensures.text
