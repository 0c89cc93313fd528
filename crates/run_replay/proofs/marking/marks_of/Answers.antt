use Rattle.run_replay.proofs.Vocabulary.{spoken, None, RunMarks, [], ap, arith, bar_shown, era_of, era_shown, event_lent, event_shown, events_shown, length, length-map, map, marks_shown, sym, world_of, ◌++◌, ◌∙◌, ◌∷◌, ◌≡◌}
use Rattle.run_replay.proofs.Replayed.{marks_then, marks_then-taken, marks_then-none}
use Rattle.run_replay.proofs.marking.marks_of.Goals as goal

pub loop-event-init : goal.loop-event-init
loop-event-init g c =
    let o = spoken g.O.SeqObject.sequential g.O.Spoken.language c.args.object in
    let all = c.into_iter-event-iterator.ensures.into_iter_gives ∙ c.events-event-items.ensures in
    let name = c.in_ok-to_vec.ensures.items_if_clones_equal (λ x y e. e) ∙ c.as_bytes.ensures.value in
    let count = c.len.ensures.value ∙ ap length c.events.ensures ∙ sym (length-map c.args.run.now.events event_shown) in
    record {
      object = c.in_ok-replay.ensures.object;
      place = (let len = ap length all in omega (arith, len));
      marks = λ i. marks_then o g.O.Spoken.state_text
          (record { object = name i; events = count i; steps = c.new.ensures.items i; bars = map bar_shown (c.new-2.ensures.items i); dots = c.new-3.ensures.items i; lines = c.new-4.ensures.items i; eras = map era_shown (c.new-5.ensures.items i) })
          (c.in_ok-replay.ensures.world i) 0 0 (events_shown (all i));
    }

pub loop-event-preserved : goal.loop-event-preserved
loop-event-preserved g c =
    let o = spoken g.O.SeqObject.sequential g.O.Spoken.language c.args.object in
    let w = world_of c.loop-event.replay in
    let event = event_lent c.in-Some.event in
    let here = c.loop-event.invariant in
    let place = here.place in
    let left = ap length c.in-Some.ensures.steps in
    let took = c.in_ok-from.ensures in
    record {
      object = took.object ∙ here.object;
      place = omega (arith, place, left);
      marks = marks_then-taken o g.O.Spoken.state_text (marks_shown c.loop-event.marks) (marks_shown c.replay_event.new.marks) w (world_of c.replay_event.new.replay) c.loop-event.from c.in_ok-from.from c.loop-event.place event c.next.new.self
          (rw here.object at took.marks) (rw here.object at took.world)
          took.from
          ∙ ap (λ es. marks_then o g.O.Spoken.state_text (marks_shown c.loop-event.marks) w c.loop-event.from c.loop-event.place (events_shown es)) (sym c.in-Some.ensures.steps)
          ∙ here.marks;
    }

pub returns : goal.returns
returns g c =
    let o = spoken g.O.SeqObject.sequential g.O.Spoken.language c.args.object in
    let w = world_of c.loop-event.replay in
    let here = c.loop-event.invariant in
    let m = marks_shown c.loop-event.marks in
    let eras : map era_shown c.push_era.new.eras.items ≡ m.eras ++ era_of o g.O.Spoken.state_text w c.loop-event.from None ∷ [] =
    c.in_ok-push_era.ensures ∙ ap (λ object. m.eras ++ era_of (spoken g.O.SeqObject.sequential g.O.Spoken.language object) g.O.Spoken.state_text w c.loop-event.from None ∷ []) here.object in
    record {
      marks = ap (λ l. let n : RunMarks = record m { eras = l } in n) eras
          ∙ sym (marks_then-none o g.O.Spoken.state_text m w c.loop-event.from c.loop-event.place)
          ∙ ap (λ es. marks_then o g.O.Spoken.state_text m w c.loop-event.from c.loop-event.place (events_shown es)) (sym c.in-None.ensures.steps.0)
          ∙ here.marks;
    }
