use Rattle.uni_script.proofs.Vocabulary.{CommandResult, Idle, None, Some, SpokenObject, ap, current_of, last_step, refl, session_after, session_of, subst, sym, world_of, ◌<◌, ◌∙◌, ◌≡◌}
use Rattle.uni_script.proofs.Results.{refusal_of_step-idle, refusal_of_step-none, result_of_steps-refused, result_of_steps-taken, session_after-refused}
use Rattle.uni_script.proofs.commands.step.Goals as goal

pub returns-in_default-clause-session : goal.returns-in_default-clause-session
returns-in_default-clause-session g c =
    let o : SpokenObject _ _ _ = record { object = g.O.SeqObject.sequential c.args.session.now.world.object; language = g.O.Spoken.language } in
    let w = world_of c.args.session.now.world in
    let low : c.args.process < w.n = (subst (λ v. c.args.process < (world_of v).n) c.world.ensures (subst (λ n. c.args.process < n) c.processes.ensures c.if-process-processes.false)) in
    let idle : None ≡ current_of w c.args.process = sym c.in_default.is ∙ c.current.ensures ∙ ap (λ v. current_of (world_of v) c.args.process) c.world-2.ensures in
    session_after-refused o (session_of c.args.session.now) _ _ (Idle c.args.process) refl (result_of_steps-refused o w c.args.process c.args.most _ (refusal_of_step-idle w c.args.process low idle))

pub returns-clause-session : goal.returns-clause-session
returns-clause-session g c =
    let o : SpokenObject _ _ _ = record { object = g.O.SeqObject.sequential c.args.session.now.world.object; language = g.O.Spoken.language } in
    let w = world_of c.args.session.now.world in
    let low : c.args.process < w.n = (subst (λ v. c.args.process < (world_of v).n) c.world.ensures (subst (λ n. c.args.process < n) c.processes.ensures c.if-process-processes.false)) in
    let called : Some c.in-Some.call ≡ current_of w c.args.process = sym c.in-Some.is ∙ c.current.ensures ∙ ap (λ v. current_of (world_of v) c.args.process) c.world-2.ensures in
    c.in_ok-response.ensures.session
    ∙ ap (λ (m : CommandResult _). session_after o (session_of c.args.session.now) m.events)
    (sym (result_of_steps-taken o w c.args.process c.args.most (refusal_of_step-none w c.args.process c.in-Some.call low called) (last_step o w c.args.process c.args.most) refl))
