use Rattle.run_replay.proofs.Vocabulary.{ap, drop, drop-map, event_shown, events_shown, opened_world, scenes_from, sym, take, world_of, ◌∙◌}
use Rattle.run_replay.proofs.Telling.{excerpt_is}
use Rattle.run_replay.proofs.scenes.excerpt_of.Goals as goal

pub returns : goal.returns
returns g c =
    let sequential = g.O.SeqObject.sequential in
    let object = sequential c.args.object in
    let from = c.args.from in
    let given = c.events-events.result in
    let all = ap events_shown c.events-events.ensures in
    let start = opened_world c.args.run.now.processes object.initial c.args.run.now.first in
    let passed = c.in_ok-passed.ensures in
    let v = world_of c.pass.new.replay in
    sym (excerpt_is object g.O.Spoken.language g.O.Spoken.state_text c.args.is_whole from c.args.most _ start v (events_shown c.args.run.now.events) (events_shown c.pass.new.events) _ _
    (rw (c.in_ok-replay.ensures.object, c.in_ok-replay.ensures.world, c.events-events.ensures) at passed.world)
    (rw c.events-events.ensures at passed.passed)
    (ap events_shown passed.events ∙ sym (drop-map event_shown from given) ∙ ap (drop from) all)
    c.in_ok-start.ensures
    (ap (λ o. scenes_from (sequential o) g.O.Spoken.language g.O.Spoken.state_text c.args.is_whole v (take c.args.most (events_shown c.pass.new.events))) (passed.object ∙ c.in_ok-replay.ensures.object)))
