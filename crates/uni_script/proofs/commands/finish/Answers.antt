use Rattle.uni_script.proofs.Vocabulary.{IfOk, OnOk, SpokenObject, answer_text, ap, most_steps, result_of_steps, session_after, session_of, spoken, subst, world_of, ◌∙◌, ◌≡◌}
use Rattle.uni_script.proofs.commands.finish.Goals as goal

pub returns-clause-session : goal.returns-clause-session
returns-clause-session g c =
    let o : SpokenObject _ _ _ = record { object = g.O.SeqObject.sequential c.args.session.now.world.object; language = g.O.Spoken.language } in
    subst (λ n. OnOk c.step.result (session_of c.step.new.session ≡ session_after o (session_of c.args.session.now) (result_of_steps o (world_of c.args.session.now.world) c.args.process (most_steps n)).events))
    (c.processes.ensures ∙ ap (λ w. (world_of w).n) c.world-2.ensures) c.step.ensures.session

pub returns-clause-answer : goal.returns-clause-answer
returns-clause-answer g c =
    let o : SpokenObject _ _ _ = spoken g.O.SeqObject.sequential g.O.Spoken.language c.args.session.now.world.object in
    subst (λ n. IfOk c.step.result (λ answer. answer_text o (world_of c.step.new.session.world) answer ≡ (result_of_steps o (world_of c.args.session.now.world) c.args.process (most_steps n)).text))
    (c.processes.ensures ∙ ap (λ w. (world_of w).n) c.world-2.ensures) c.step.ensures.answer
