use Rattle.told_order.proofs.Vocabulary.{IsFirstDifference, ap, arith, inl, length-map, map, refl, replicate, slice_index, slice_set, subst, sym, ◌+◌, ◌∙◌, ◌≡◌}
use Rattle.seq_object.specs.declared.call_id.CallId.{CallId}
use Rattle.told_order.proofs.Left.{next_below, sum_of_lists}
use Rattle.told_order.proofs.Underway.{IsUnderway, underway-all, underway-differs, underway-further, underway-left, underway-none, underway-start}
use Rattle.told_order.proofs.order.make_calls.Goals as goal

pub loop-place-init : goal.loop-place-init
loop-place-init g c =
    let lists = map (λ own. own.items) c.args.lists.now in
    record {
      underway = underway-start (g.M.Replaying.object c.args.replaying.now) g.M.Replaying.asks g.M.Replaying.tells lists c.args.made.now (g.M.Replaying.state c.args.replaying.now)
          (c.requires.made ∙ ap (λ n. replicate n 0) (sym (length-map c.args.lists.now (λ own. own.items)))) c.requires.start;
      ready = c.requires.ready;
      object = refl;
    }

pub first_left-requires-clause-left : goal.first_left-requires-clause-left
first_left-requires-clause-left g c =
    let lists = map (λ own. own.items) c.args.lists.now in
    let here = c.loop-place-test.true in
    let all = c.calls_in-place-end.ensures in
    let sum = sum_of_lists c.args.lists.now in
    underway-left (g.M.Replaying.object c.args.replaying.now) g.M.Replaying.asks g.M.Replaying.tells lists c.loop-place.made c.loop-place.place (g.M.Replaying.state c.loop-place.replaying)
    c.loop-place.invariant.underway (omega (arith, here, all, sum))

pub returns-in_default-clause-differs : goal.returns-in_default-clause-differs
returns-in_default-clause-differs g c = λ call is.
    let object = g.M.Replaying.object c.args.replaying.now in
    let lists = map (λ own. own.items) c.args.lists.now in
    let same : c.first_left.result ≡ call = cc in
    subst (IsFirstDifference object g.M.Replaying.asks g.M.Replaying.tells lists) same
    (underway-none object g.M.Replaying.asks g.M.Replaying.tells lists c.loop-place.made c.loop-place.place (g.M.Replaying.state c.loop-place.replaying)
    c.loop-place.invariant.underway c.first_left.result c.first_left.ensures.nth c.first_left.ensures.left (c.in_default.ensures.none refl))

pub overflow_cast-result : goal.overflow_cast-result
overflow_cast-result g c =
    let lists = map (λ own. own.items) c.args.lists.now in
    let inside = next_below lists c.loop-place.made c.in-Some.p c.in-Some.call.now c.in-Some.ensures.some.0 in
    let many = length-map c.args.lists.now (λ own. own.items) in
    let few = c.requires.few.0 in
    omega (arith, inside, many, few)

pub offset_bounds-made-p : goal.offset_bounds-made-p
offset_bounds-made-p g c =
    let lists = map (λ own. own.items) c.args.lists.now in
    let inside = next_below lists c.loop-place.made c.in-Some.p c.in-Some.call.now c.in-Some.ensures.some.0 in
    let many = length-map c.args.lists.now (λ own. own.items) in
    let few = c.requires.few.0 in
    omega (arith, inside, many, few)

pub bounds-made-p : goal.bounds-made-p
bounds-made-p g c =
    let lists = map (λ own. own.items) c.args.lists.now in
    let inside = next_below lists c.loop-place.made c.in-Some.p c.in-Some.call.now c.in-Some.ensures.some.0 in
    let long = c.loop-place.invariant.underway.long in
    omega (arith, inside, long)

pub returns-then-not-branch-clause-differs : goal.returns-then-not-branch-clause-differs
returns-then-not-branch-clause-differs g c = λ call is.
    let object = g.M.Replaying.object c.args.replaying.now in
    let asks = g.M.Replaying.asks in
    let tells = g.M.Replaying.tells in
    let state = g.M.Replaying.state c.loop-place.replaying in
    let lists = map (λ own. own.items) c.args.lists.now in
    let next = c.in-Some.call.now in
    let at = c.loop-place.invariant in
    let id : CallId = record { process = c.in-Some.p; nth = slice_index c.loop-place.made c.in-Some.p } in
    let same : id ≡ call = cc in
    subst (IsFirstDifference object asks tells lists) same
    (underway-differs object asks tells lists c.loop-place.made c.loop-place.place state at.underway
    c.in-Some.p next c.in-Some.ensures.some.0 id refl refl
    (inl (λ right.
    let yes = c.in_ok-make.ensures.told.1 (subst (λ o. tells next.1.reply ≡ o.answer state (asks next.0)) (sym at.object) right) in
    let no = c.if-not-branch.true in cc)))

pub offset_bounds-made-p-in-loop-place : goal.offset_bounds-made-p-in-loop-place
offset_bounds-made-p-in-loop-place g c =
    let lists = map (λ own. own.items) c.args.lists.now in
    let inside = next_below lists c.loop-place.made c.in-Some.p c.in-Some.call.now c.in-Some.ensures.some.0 in
    let many = length-map c.args.lists.now (λ own. own.items) in
    let few = c.requires.few.0 in
    omega (arith, inside, many, few)

pub bounds-made-p-in-loop-place : goal.bounds-made-p-in-loop-place
bounds-made-p-in-loop-place g c =
    let lists = map (λ own. own.items) c.args.lists.now in
    let inside = next_below lists c.loop-place.made c.in-Some.p c.in-Some.call.now c.in-Some.ensures.some.0 in
    let long = c.loop-place.invariant.underway.long in
    omega (arith, inside, long)

pub bounds-made-p-in-loop-place-2 : goal.bounds-made-p-in-loop-place-2
bounds-made-p-in-loop-place-2 g c =
    let lists = map (λ own. own.items) c.args.lists.now in
    let inside = next_below lists c.loop-place.made c.in-Some.p c.in-Some.call.now c.in-Some.ensures.some.0 in
    let long = c.loop-place.invariant.underway.long in
    omega (arith, inside, long)

pub loop-place-preserved : goal.loop-place-preserved
loop-place-preserved g c =
    let object = g.M.Replaying.object c.args.replaying.now in
    let asks = g.M.Replaying.asks in
    let tells = g.M.Replaying.tells in
    let state = g.M.Replaying.state c.loop-place.replaying in
    let lists = map (λ own. own.items) c.args.lists.now in
    let next = c.in-Some.call.now in
    let at = c.loop-place.invariant in
    record {
      underway = subst (IsUnderway object asks tells lists (slice_set c.loop-place.made c.in-Some.p (slice_index c.loop-place.made c.in-Some.p + 1)) (c.loop-place.place + 1))
          (sym (c.in_ok-make.ensures.state ∙ ap (λ o. o.next state (asks next.0)) at.object))
          (underway-further object asks tells lists c.loop-place.made c.loop-place.place state at.underway c.in-Some.p next c.in-Some.ensures.some.0 c.in-Some.ensures.some.1
          (subst (λ o. tells next.1.reply ≡ o.answer state (asks next.0)) at.object (c.in_ok-make.ensures.told.0 c.if-not-branch.false)));
      ready = c.in_ok-make.ensures.ready;
      object = c.in_ok-make.ensures.object ∙ at.object;
    }

pub returns-clause-agrees : goal.returns-clause-agrees
returns-clause-agrees g c =
    let lists = map (λ own. own.items) c.args.lists.now in
    let end = c.loop-place.auto.place-end in
    let over = c.loop-place-test.false in
    let all = c.calls_in-place-end.ensures in
    let sum = sum_of_lists c.args.lists.now in
    underway-all (g.M.Replaying.object c.args.replaying.now) g.M.Replaying.asks g.M.Replaying.tells lists c.loop-place.made c.loop-place.place (g.M.Replaying.state c.loop-place.replaying)
    c.loop-place.invariant.underway (omega (arith, end, over, all, sum))
