use Rattle.lin_check.proofs.Vocabulary.{FailsFor, IsReached, Some, [], arith, drop, inl, inr, length, refl, subst, sym, take, ◌+◌, ◌∙◌, ◌≡◌}
use Rattle.lin_check.proofs.Searching.{linearized}
use Rattle.lin_check.proofs.Ordering.{drop_more, drop_past, fails_over, take_more, take_past}
use Rattle.lin_check.proofs.ordered.check_order.Goals as goal

pub returns-then-not-advance : goal.returns-then-not-advance
returns-then-not-advance g c =
    c.in_ok-node.ensures.ordered c.args.history.now c.args.order.now (c.if-not-advance.ensures.dead refl (Some c.args.order.now))

pub loop-place-init : goal.loop-place-init
loop-place-init g c =
    record {
      ready = c.if-not-advance.ensures.ready refl;
      many = c.if-not-advance.ensures.slots ∙ c.in_ok-node.ensures.slots;
      reached = (c.if-not-advance.ensures.passes refl).reached [] (c.in_ok-node.ensures.reached c.args.history.now);
      sound = λ fails. c.in_ok-node.ensures.ordered c.args.history.now c.args.order.now ((c.if-not-advance.ensures.passes refl).fails (Some c.args.order.now) fails);
    }

pub follow-requires-clause-within : goal.follow-requires-clause-within
follow-requires-clause-within g c =
    λ k d less.
    let w = c.in-Some.ensures.some k d less in
    let m : length c.loop-place.node.slots.items ≡ c.in-Some.n = c.loop-place.invariant.many in
    omega arith

pub returns-in-None : goal.returns-in-None
returns-in-None g c =
    let dead = rw c.in-None.is at c.in_ok-next.ensures.none in
    c.loop-place.invariant.sound (subst (λ xs. FailsFor (g.O.SeqObject.sequential c.args.object.now) c.args.history.now (Some xs) c.loop-place.node.at c.loop-place.node.slots.items c.loop-place.node.state) (sym (drop_more c.args.order.now c.loop-place.place-index c.loop-place-test.true))
    (dead (drop (c.loop-place.place-index + 1) c.args.order.now)))

pub loop-place-preserved : goal.loop-place-preserved
loop-place-preserved g c =
    let follows = rw c.in-Some-2.is at c.in_ok-next.ensures.some in
    record {
      ready = follows.ready;
      many = follows.many ∙ c.loop-place.invariant.many;
      reached = subst (λ xs. IsReached (g.O.SeqObject.sequential c.args.object.now) c.args.history.now c.in-Some-2.next xs) (sym (take_more c.args.order.now c.loop-place.place-index c.loop-place-test.true))
          (follows.reached (take c.loop-place.place-index c.args.order.now) c.loop-place.invariant.reached);
      sound = λ fails. c.loop-place.invariant.sound (subst (λ xs. FailsFor (g.O.SeqObject.sequential c.args.object.now) c.args.history.now (Some xs) c.loop-place.node.at c.loop-place.node.slots.items c.loop-place.node.state) (sym (drop_more c.args.order.now c.loop-place.place-index c.loop-place-test.true))
          (follows.fails (drop (c.loop-place.place-index + 1) c.args.order.now) fails));
    }

pub returns-then-node-history : goal.returns-then-node-history
returns-then-node-history g c =
    linearized (g.O.SeqObject.sequential c.args.object.now) c.args.history.now c.loop-place.node.at c.loop-place.node.slots.items c.loop-place.node.state c.args.order.now c.if-node-history.true
    (subst (λ xs. IsReached (g.O.SeqObject.sequential c.args.object.now) c.args.history.now c.loop-place.node xs) (take_past c.args.order.now c.loop-place.place-index c.loop-place-test.false) c.loop-place.invariant.reached)

pub returns : goal.returns
returns g c =
    elim c.loop-place.invariant.ready [
      | inl end ↦ absurd (c.if-node-history.false end)
      | inr choice ↦ c.loop-place.invariant.sound (subst (λ xs. FailsFor (g.O.SeqObject.sequential c.args.object.now) c.args.history.now (Some xs) c.loop-place.node.at c.loop-place.node.slots.items c.loop-place.node.state) (sym (drop_past c.args.order.now c.loop-place.place-index c.loop-place-test.false))
          (fails_over (g.O.SeqObject.sequential c.args.object.now) c.args.history.now c.loop-place.node c.loop-place.invariant.ready choice))
    ]
