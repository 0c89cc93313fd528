use Rattle.run_replay.proofs.Vocabulary.{answered, ap, option_map, refl, response_of_step, rules, world_of, ◌∙◌, ◌≡◌}
use Rattle.run_replay.proofs.Replayed.{answered-progress}
use Rattle.run_replay.proofs.Telling.{stepped_is}
use Rattle.run_replay.proofs.scenes.step_of.Goals.{in-Done+in_ok-resp_text-in-Done, in-Going}
use Rattle.run_replay.proofs.scenes.step_of.Goals as goal

pub returns-clause-step : goal.returns-clause-step
returns-clause-step g c =
    let w = world_of c.args.replay.now in
    let reply : option_map (λ t. t.items) c.match-progress.reply ≡ option_map g.O.Spoken.language.resp_text (answered c.in_ok-progress.progress) =
    elim c.match-progress.branch [ in-Done+in_ok-resp_text-in-Done w ↦ search rules | in-Going w ↦ search rules ] in
    stepped_is (g.O.SeqObject.sequential c.args.replay.now.object) g.O.Spoken.language g.O.Spoken.state_text w (world_of c.take_step.new.replay) c.shape.ensures.sound c.args.process c.in-Some.coming c.in-Some.ensures.coming _
    c.in_ok-progress.ensures.world refl refl c.in_ok-before.ensures c.in_ok-after.ensures c.in_ok-proposed.ensures c.next_kind.ensures c.steps.ensures.value c.turns.ensures.value
    (reply ∙ ap (option_map g.O.Spoken.language.resp_text) (answered-progress (response_of_step w c.args.process) c.in_ok-progress.progress c.in_ok-progress.ensures.progress))
