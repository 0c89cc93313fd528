use Rattle.run_replay.proofs.Vocabulary.{SpokenObject, answered, ap, bar_ended, bar_shown, end_shown, has_changed, map, option_map, option_map_or, refl, rules, sym, world_of, ◌++◌, ◌∙◌, ◌≡◌}
use Rattle.run_replay.proofs.Replayed.{changes-taken, end_of_step-taken, marks_are, steps_by-taken}
use Rattle.run_replay.proofs.Linking.{dots_by-taken}
use Rattle.run_replay.proofs.marking.replay_step.Goals.{in-Done+in_ok-resp_text-in-Done, in-Going}
use Rattle.run_replay.proofs.marking.replay_step.Goals as goal

pub returns-clause-marks : goal.returns-clause-marks
returns-clause-marks g c = λ from.
    let o : SpokenObject _ _ _ = record { object = g.O.SeqObject.sequential c.args.replay.now.object; language = g.O.Spoken.language } in
    let w = world_of c.args.replay.now in
    let v = world_of c.take_step.new.replay in
    let bars = map bar_shown c.args.marks.now.bars.items in
    let is = c.in-Some.ensures.coming in
    let took = c.in_ok-progress.ensures in
    let changed = changes-taken o.object w v c.args.process c.in-Some.coming is c.standing_at-before.result c.has_changed-changed.result took.world c.standing_at-before.ensures
    (c.has_changed-changed.ensures ∙ ap (has_changed c.in-Some.coming.kind c.standing_at-before.result) c.standing_at-after.ensures) in
    let end : option_map end_shown c.match-progress.end ≡ option_map (λ r. record { event = c.args.place; reply = o.language.resp_text r; steps = v.steps c.args.process; turns = v.turns c.args.process }) (answered c.in_ok-progress.progress) =
    elim c.match-progress.branch [ in-Done+in_ok-resp_text-in-Done b ↦ search rules | in-Going b ↦ search rules ] in
    marks_are _ _ refl refl
    (c.in_ok-push.ensures.items ∙ ap (λ l. c.args.marks.now.steps.items ++ l) (sym (steps_by-taken o.object w v c.args.place c.args.process c.steps.result c.in-Some.coming is c.has_changed-changed.result took.world c.steps.ensures.value changed)))
    (c.in_ok-end_bars.ensures ∙ ap (λ e. option_map_or (λ end. map (bar_ended c.args.process end) bars) e bars) (end ∙ end_of_step-taken o w c.args.place c.args.process v c.in_ok-progress.progress took.world took.progress))
    (c.in_ok-push_dot.ensures ∙ ap (λ l. c.args.marks.now.dots.items ++ l) (dots_by-taken o.object w c.shape.ensures.sound c.args.place c.args.process c.in-Some.coming is c.has_changed-changed.result changed))
    refl refl

pub returns-clause-world : goal.returns-clause-world
returns-clause-world g c = c.in_ok-progress.ensures.world
