use Rattle.lin_check.proofs.Vocabulary.{Frame, [], ap, arith, length, map, refl, subst, sym, ◌∙◌, ◌≡◌}
use Rattle.lin_check.specs.declared.failed.Failed.{Failed}
use Rattle.lin_check.proofs.Searching.{IsSearch, at_end, down, first_round, nothing_of, refuted, same_search, up}
use Rattle.lin_check.proofs.search.search.Goals as goal
use Rattle.lin_check.proofs.search.search.Goals.{in-Some+in_ok-push-in-Some+in_ok-order-in-Some+else-node-history, in-None+in_ok-add-in-None+in-Some-pop}

pub loop-init : goal.loop-init
loop-init g c =
    let n = length c.args.root.slots.items in
    subst (λ xs. IsSearch (g.O.SeqObject.sequential c.args.object.now) c.args.history.now n xs c.args.root c.in_ok-order.order.items 0 c.in_ok-failed.failed.nodes.items) (sym c.new-stack.ensures.items)
    (subst (λ fs. IsSearch (g.O.SeqObject.sequential c.args.object.now) c.args.history.now n [] c.args.root c.in_ok-order.order.items 0 fs) (sym c.in_ok-failed.ensures)
    (first_round (g.O.SeqObject.sequential c.args.object.now) c.args.history.now n c.args.root c.in_ok-order.order.items c.requires.choice refl c.requires.reached c.requires.sound))

pub next_child-requires-clause-within : goal.next_child-requires-clause-within
next_child-requires-clause-within g c = λ k d less.
    let w = c.requires.within k d less in
    let m : length c.loop.node.slots.items ≡ length c.args.root.slots.items = c.loop.invariant.many in
    omega arith

pub returns-then-node-history : goal.returns-then-node-history
returns-then-node-history g c =
    let told = rw c.in-Some.is at c.in_ok-found.ensures.some in
    let finds = rw c.deref.ensures.value at told in
    at_end (g.O.SeqObject.sequential c.args.object.now) c.args.history.now (length c.args.root.slots.items) c.loop.stack.items c.push.new.self.items c.loop.node c.in-Some.found.child.node c.loop.order c.loop.next
    c.in-Some.found.next c.in-Some.found.child.call c.loop.failed.nodes.items c.in_ok-order_of-in-Some.field-0.items c.loop.invariant finds c.in_ok-push-in-Some.ensures.items c.if-node-history.true
    (c.in_ok-order_of-in-Some.ensures ∙ ap (map (λ (f : Frame g.row.O-State.Denot). f.call)) c.deref-then-node-history.ensures.value)

pub returns-in-None-pop : goal.returns-in-None-pop
returns-in-None-pop g c =
    let fails = rw c.in-None.is at c.in_ok-found.ensures.none in
    let ok = c.loop.stack.ok in
    let z = c.in-None-pop.ensures.cases.0 in
    let e : length c.loop.stack.items ≡ 0 = omega arith in
    refuted (g.O.SeqObject.sequential c.args.object.now) c.args.history.now (length c.args.root.slots.items) c.loop.stack.items c.loop.node c.loop.order.items c.loop.next c.loop.failed.nodes.items c.loop.invariant fails
    (nothing_of c.loop.stack.items e)

pub loop-preserved : goal.loop-preserved
loop-preserved g c = elim c.match-branch-4.branch [
  | in-Some+in_ok-push-in-Some+in_ok-order-in-Some+else-node-history w ↦
      let told = rw w.in-Some.is at c.in_ok-found.ensures.some in
      let finds = rw c.deref.ensures.value at told in
      same_search (g.O.SeqObject.sequential c.args.object.now) c.args.history.now (length c.args.root.slots.items) c.match-branch-4.stack w.push.new.self c.match-branch-4.node w.in-Some.found.child.node
      c.match-branch-4.order w.in_ok-order-in-Some.order c.match-branch-4.next 0 c.match-branch-4.failed.nodes.items c.loop.failed.nodes.items
      w.stack-is w.node-is w.order-is w.next-is (ap (λ (f : Failed g.row.O-State.Denot). f.nodes.items) w.failed-is)
      (down (g.O.SeqObject.sequential c.args.object.now) c.args.history.now (length c.args.root.slots.items) c.loop.stack.items w.push.new.self.items c.loop.node w.in-Some.found.child.node c.loop.order
      w.in_ok-order-in-Some.order.items c.loop.next w.in-Some.found.next w.in-Some.found.child.call c.loop.failed.nodes.items c.loop.invariant finds w.in_ok-push-in-Some.ensures.items w.if-node-history.false)
  | in-None+in_ok-add-in-None+in-Some-pop w ↦
      let fails = rw w.in-None.is at c.in_ok-found.ensures.none in
      same_search (g.O.SeqObject.sequential c.args.object.now) c.args.history.now (length c.args.root.slots.items) c.match-branch-4.stack w.pop.new.self c.match-branch-4.node w.in-Some-pop.frame.node
      c.match-branch-4.order w.in-Some-pop.frame.order c.match-branch-4.next w.in-Some-pop.frame.next c.match-branch-4.failed.nodes.items w.add.new.failed.nodes.items
      w.stack-is w.node-is w.order-is w.next-is (ap (λ (f : Failed g.row.O-State.Denot). f.nodes.items) w.failed-is)
      (up (g.O.SeqObject.sequential c.args.object.now) c.args.history.now (length c.args.root.slots.items) c.loop.stack.items w.pop.new.self.items w.in-Some-pop.frame c.loop.node c.loop.order.items c.loop.next
      c.loop.failed.nodes.items w.add.new.failed.nodes.items c.loop.invariant fails w.in-Some-pop.ensures.items w.in_ok-add-in-None.ensures)
]
