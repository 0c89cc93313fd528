use Rattle.run_tell.proofs.Vocabulary.{AppendsPrefix-nil, Err, IfErr-weaker, Moves, Some, [], ap, arith, err_from_is_err_and, inr, length, opening_shown, rules, scene_shown, subst, sym, told_from, told_text, trace_with, ◌++◌, ◌∙◌, ◌∷◌, ◌≡◌}
use Rattle.uni_script.proofs.RunningOn.{stays_false}
use Rattle.run_tell.proofs.Tellings.{Moves-failed, Moves-more, Moves-part, Moves-start, Moves-told_on, WritesText-err, WritesText-last}
use Rattle.run_tell.proofs.order.tell_events.Goals as goal

pub loop-text-init : goal.loop-text-init
loop-text-init g c =
    let words = g.T.Telling.wording in
    let whole = told_text words (trace_with c.args.range c.args.opened.now c.args.scenes) c.args.lines.now c.args.remarks.now in
    let end = g.W.TextOut.contents c.args.out.now in
    let empty : c.new-text.result.items ≡ [] = search rules in
    let opened = c.in_ok-push_opening.ensures ∙ ap (λ l. l ++ words.opening (opening_shown c.args.opened.now)) empty in
    record {
      moves = subst (λ t. Moves end end whole (t ++ told_from words c.args.range c.args.lines.now c.args.range.from c.args.scenes c.args.remarks.now)) (sym opened) (Moves-start end whole);
      good = c.requires.out;
      numbers = c.requires.numbers;
    }

pub loop-text-smaller : goal.loop-text-smaller
loop-text-smaller g c =
    let split : c.loop-text.scenes ≡ Some (scene_shown c.in-Some.scene) ∷ c.next_scene.new.self = rw c.in-Some.is at c.in_ok-scene.ensures.next in
    omega (arith, ap length split)

pub overflow_add-event : goal.overflow_add-event
overflow_add-event g c =
    let split : c.loop-text.scenes ≡ Some (scene_shown c.in-Some.scene) ∷ c.next_scene.new.self = rw c.in-Some.is at c.in_ok-scene.ensures.next in
    omega (arith, ap length split, c.loop-text.invariant.numbers)

pub loop-text-preserved : goal.loop-text-preserved
loop-text-preserved g c =
    let words = g.T.Telling.wording in
    let whole = told_text words (trace_with c.args.range c.args.opened.now c.args.scenes) c.args.lines.now c.args.remarks.now in
    let split : c.loop-text.scenes ≡ Some (scene_shown c.in-Some.scene) ∷ c.next_scene.new.self = rw c.in-Some.is at c.in_ok-scene.ensures.next in
    let told = Moves-told_on words c.args.range c.args.lines.now (g.W.TextOut.contents c.args.out.now) (g.W.TextOut.contents c.loop-text.out) whole c.loop-text.event c.loop-text.scenes c.next_scene.new.self (scene_shown c.in-Some.scene) c.loop-text.rest.now _ c.loop-text.text.items c.push_event.new.text.items split c.in_ok-rest.ensures.left c.in_ok-rest.ensures.text c.loop-text.invariant.moves in
    record {
      moves = Moves-more _ _ _ whole c.push_event.new.text.items _ _ told c.in_ok-write_from.ensures.moved;
      good = stays_false _ _ c.in_ok-write_from.ensures.out (λ e. cc);
      numbers = omega (arith, ap length split, c.loop-text.invariant.numbers);
    }

pub loop-text-preserved-in_ok-write_from : goal.loop-text-preserved-in_ok-write_from
loop-text-preserved-in_ok-write_from g c =
    let words = g.T.Telling.wording in
    let whole = told_text words (trace_with c.args.range c.args.opened.now c.args.scenes) c.args.lines.now c.args.remarks.now in
    let split : c.loop-text.scenes ≡ Some (scene_shown c.in-Some.scene) ∷ c.next_scene.new.self = rw c.in-Some.is at c.in_ok-scene.ensures.next in
    let told = Moves-told_on words c.args.range c.args.lines.now (g.W.TextOut.contents c.args.out.now) (g.W.TextOut.contents c.loop-text.out) whole c.loop-text.event c.loop-text.scenes c.next_scene.new.self (scene_shown c.in-Some.scene) c.loop-text.rest.now _ c.loop-text.text.items c.push_event.new.text.items split c.in_ok-rest.ensures.left c.in_ok-rest.ensures.text c.loop-text.invariant.moves in
    record {
      moves = Moves-more _ _ _ whole c.push_event.new.text.items _ _ told c.in_ok-write_from.ensures.moved;
      good = stays_false _ _ c.in_ok-write_from.ensures.out (λ e. cc);
      numbers = omega (arith, ap length split, c.loop-text.invariant.numbers);
    }

pub returns-in_err-write_from-clause-told : goal.returns-in_err-write_from-clause-told
returns-in_err-write_from-clause-told g c =
    let words = g.T.Telling.wording in
    let whole = told_text words (trace_with c.args.range c.args.opened.now c.args.scenes) c.args.lines.now c.args.remarks.now in
    let split : c.loop-text.scenes ≡ Some (scene_shown c.in-Some.scene) ∷ c.next_scene.new.self = rw c.in-Some.is at c.in_ok-scene.ensures.next in
    let told = Moves-told_on words c.args.range c.args.lines.now (g.W.TextOut.contents c.args.out.now) (g.W.TextOut.contents c.loop-text.out) whole c.loop-text.event c.loop-text.scenes c.next_scene.new.self (scene_shown c.in-Some.scene) c.loop-text.rest.now _ c.loop-text.text.items c.push_event.new.text.items split c.in_ok-rest.ensures.left c.in_ok-rest.ensures.text c.loop-text.invariant.moves in
    WritesText-err _ _ _ _ (search rules) (Moves-failed _ _ _ whole c.push_event.new.text.items _ told c.in_err-write_from.ensures.prefix)

pub returns-in_err-write_from-clause-out : goal.returns-in_err-write_from-clause-out
returns-in_err-write_from-clause-out g c =
    let p = err_from_is_err_and c.from_residual-in_err-write_from.result c.from_residual-in_err-write_from.ensures.1 in
    (λ _. c.in_err-write_from.ensures.out.0 (ap Err c.in_err-write_from.ensures.fault), λ _. p.1 ∙ ap Err (p.2 ∙ c.in_err-write_from.ensures.fault))

pub returns-in_err-push_remarks-clause-told : goal.returns-in_err-push_remarks-clause-told
returns-in_err-push_remarks-clause-told g c = WritesText-err _ _ _ _ (search rules) (Moves-part _ _ _ _ c.loop-text.invariant.moves)

pub returns-clause-fault : goal.returns-clause-fault
returns-clause-fault g c = IfErr-weaker c.write_from-2.result _ _ (λ e write. inr write) c.write_from-2.ensures.fault

pub returns-in_err-push_opening-clause-told : goal.returns-in_err-push_opening-clause-told
returns-in_err-push_opening-clause-told g c = WritesText-err _ _ _ _ (search rules) (AppendsPrefix-nil _ _)

pub returns-in_err-scene-clause-told : goal.returns-in_err-scene-clause-told
returns-in_err-scene-clause-told g c = WritesText-err _ _ _ _ (search rules) (Moves-part _ _ _ _ c.loop-text.invariant.moves)

pub returns-in_err-rest-clause-told : goal.returns-in_err-rest-clause-told
returns-in_err-rest-clause-told g c = WritesText-err _ _ _ _ (search rules) (Moves-part _ _ _ _ c.loop-text.invariant.moves)

pub returns-clause-told : goal.returns-clause-told
returns-clause-told g c =
    let words = g.T.Telling.wording in
    let here = c.loop-text in
    let none : here.scenes ≡ [] = rw c.in_default.is at c.in_ok-scene.ensures.end in
    let whole = told_text words (trace_with c.args.range c.args.opened.now c.args.scenes) c.args.lines.now c.args.remarks.now in
    let all : Moves (g.W.TextOut.contents c.args.out.now) (g.W.TextOut.contents here.out) whole c.push_remarks.new.text.items =
    subst (Moves (g.W.TextOut.contents c.args.out.now) (g.W.TextOut.contents here.out) whole)
    (ap (λ scenes. here.text.items ++ told_from words c.args.range c.args.lines.now here.event scenes here.rest.now) none ∙ sym c.in_ok-push_remarks.ensures) here.invariant.moves in
    WritesText-last c.write_from-2.result _ _ _ whole _ _ all c.write_from-2.ensures.moved c.write_from-2.ensures.all c.write_from-2.ensures.prefix
