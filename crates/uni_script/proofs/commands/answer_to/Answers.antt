use Rattle.uni_script.proofs.Vocabulary.{OnOk, SpokenObject, result_of_command, session_after, session_of, spoken, subst, sym, ◌≡◌}
use Rattle.uni_script.proofs.commands.answer_to.Goals as goal

pub returns-in-Call-clause-session : goal.returns-in-Call-clause-session
returns-in-Call-clause-session g c =
    let o : SpokenObject _ _ _ = spoken g.O.SeqObject.sequential g.O.Spoken.language c.args.session.now.world.object in
    subst (λ command. OnOk c.call.result (session_of c.call.new.session ≡ session_after o (session_of c.args.session.now) (result_of_command o (session_of c.args.session.now) command).events)) (sym c.in-Call.is)
    c.call.ensures.session

pub returns-in-Step-clause-session : goal.returns-in-Step-clause-session
returns-in-Step-clause-session g c =
    let o : SpokenObject _ _ _ = spoken g.O.SeqObject.sequential g.O.Spoken.language c.args.session.now.world.object in
    subst (λ command. OnOk c.step.result (session_of c.step.new.session ≡ session_after o (session_of c.args.session.now) (result_of_command o (session_of c.args.session.now) command).events)) (sym c.in-Step.is)
    c.step.ensures.session

pub returns-in-Finish-clause-session : goal.returns-in-Finish-clause-session
returns-in-Finish-clause-session g c =
    let o : SpokenObject _ _ _ = spoken g.O.SeqObject.sequential g.O.Spoken.language c.args.session.now.world.object in
    subst (λ command. OnOk c.finish.result (session_of c.finish.new.session ≡ session_after o (session_of c.args.session.now) (result_of_command o (session_of c.args.session.now) command).events)) (sym c.in-Finish.is)
    c.finish.ensures.session

pub returns-in-Trim-clause-session : goal.returns-in-Trim-clause-session
returns-in-Trim-clause-session g c =
    let o : SpokenObject _ _ _ = spoken g.O.SeqObject.sequential g.O.Spoken.language c.args.session.now.world.object in
    subst (λ command. OnOk c.trim.result (session_of c.trim.new.session ≡ session_after o (session_of c.args.session.now) (result_of_command o (session_of c.args.session.now) command).events)) (sym c.in-Trim.is)
    c.trim.ensures.session

pub returns-in-Reshape-clause-session : goal.returns-in-Reshape-clause-session
returns-in-Reshape-clause-session g c =
    let o : SpokenObject _ _ _ = spoken g.O.SeqObject.sequential g.O.Spoken.language c.args.session.now.world.object in
    subst (λ command. OnOk c.reshape.result (session_of c.reshape.new.session ≡ session_after o (session_of c.args.session.now) (result_of_command o (session_of c.args.session.now) command).events)) (sym c.in-Reshape.is)
    c.reshape.ensures.session
