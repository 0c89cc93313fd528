use Rattle.run_replay.proofs.Vocabulary.{ap, opened_world, ◌∙◌}
use Rattle.run_replay.proofs.scenes.reopened.Goals as goal

pub returns-in-Ok-clause-world : goal.returns-in-Ok-clause-world
returns-in-Ok-clause-world g c =
    let s = (g.O.SeqObject.sequential c.args.object).initial in
    c.in-Ok.ensures.opened ∙ ap (λ n. opened_world n s c.first.result) c.processes.ensures ∙ ap (λ k. opened_world c.args.run.now.processes s k) c.first.ensures
