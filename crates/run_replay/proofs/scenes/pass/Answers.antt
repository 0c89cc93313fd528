use Rattle.run_replay.proofs.Vocabulary.{[], ap, arith, drop, event_lent, event_shown, events_shown, length, rules, sym, take, world_after_all, world_of, ◌+◌, ◌-◌, ◌<◌, ◌∙◌, ◌∷◌, ◌≡◌}
use Rattle.std.proofs.Math.Seq.{take-nil}
use Rattle.run_replay.proofs.Telling.{drop_first, passed_more, world_more}
use Rattle.run_replay.proofs.scenes.pass.Goals.{else-loop-left-test, then-loop-left-test+in_default}
use Rattle.run_replay.proofs.scenes.pass.Goals as goal

pub loop-left-preserved : goal.loop-left-preserved
loop-left-preserved g c =
    let object = g.O.SeqObject.sequential c.args.replay.now.object in
    let here = c.loop-left.invariant in
    let took = c.in_ok-take_event.ensures in
    let left = c.loop-left.left in
    let e = event_lent c.in-Some.event in
    let rest = c.next.new.self in
    let some : 0 < left = search (rules, c.loop-left-test.true) in
    let fewer = here.fewer in
    let is : c.loop-left.events ≡ e ∷ rest = c.in-Some.ensures.steps in
    record {
      can_next = tt;
      is_finite = tt;
      object = took.object ∙ here.object;
      fewer = omega arith;
      events = sym (drop_first left e rest some) ∙ ap (drop left) (sym is) ∙ here.events;
      passed = passed_more c.args.count left _ (event_shown e) (events_shown rest) some fewer
          (ap (λ es. (c.args.count - left) + length (take left (events_shown es))) (sym is) ∙ here.passed);
      world = world_more object left (world_of c.loop-left.replay) _ _ (event_shown e) (events_shown rest) some
          (rw here.object at took.world)
          (ap (λ es. world_after_all object (world_of c.loop-left.replay) (take left (events_shown es))) (sym is) ∙ here.world);
    }

pub returns-clause-world : goal.returns-clause-world
returns-clause-world g c =
    let object = g.O.SeqObject.sequential c.args.replay.now.object in
    let here = c.loop-left.invariant in
    let left = c.loop-left.left in
    let w = world_of c.loop-left.replay in
    elim c.loop-left-test.branch [
      | else-loop-left-test b ↦ (let none : left ≡ 0 = search (rules, b.loop-left-test.false) in ap (λ k. world_after_all object w (take k (events_shown c.loop-left.events))) (sym none) ∙ here.world)
      | then-loop-left-test+in_default b ↦ (let empty : c.loop-left.events ≡ [] = search (rules, b.next.ensures.steps) in
          ap (world_after_all object w) (sym (take-nil left)) ∙ ap (λ es. world_after_all object w (take left (events_shown es))) (sym empty) ∙ here.world)
    ]
