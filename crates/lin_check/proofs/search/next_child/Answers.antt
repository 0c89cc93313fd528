use Rattle.lin_check.proofs.Vocabulary.{IsFailing, Leads, arith, subst}
use Rattle.lin_check.proofs.Searching.{finds_by, known_fails, tried_all, tried_more}
use Rattle.lin_check.proofs.search.next_child.Goals as goal
use Rattle.lin_check.proofs.search.next_child.Goals.{in-Some+else-not-has, in-None}

pub returns-then-not-has-clause-some : goal.returns-then-not-has-clause-some
returns-then-not-has-clause-some g c =
    let leads = rw c.in-Some.is at c.in_ok-child.ensures.some in
    finds_by (g.O.SeqObject.sequential c.args.object.now) c.args.history.now c.args.node.now c.in-Some.child.node c.args.order.now c.loop-j.j c.in-Some.child.call c.loop-j.invariant
    (subst (λ q. Leads (g.O.SeqObject.sequential c.args.object.now) c.args.history.now c.args.node.now q c.in-Some.child.call c.in-Some.child.node) c.candidate_at-q.ensures leads)

pub loop-j-preserved : goal.loop-j-preserved
loop-j-preserved g c = elim c.match-branch-2.branch [
  | in-Some+else-not-has w ↦
      let leads = rw w.in-Some.is at c.in_ok-child.ensures.some in
      let there = w.has.ensures w.if-not-has.false in
      tried_more (g.O.SeqObject.sequential c.args.object.now) c.args.history.now c.args.node.now c.args.order.now c.loop-j.j c.loop-j.invariant
      (subst (λ q. IsFailing (g.O.SeqObject.sequential c.args.object.now) c.args.history.now c.args.node.now q) c.candidate_at-q.ensures
      (leads.fails (known_fails (g.O.SeqObject.sequential c.args.object.now) c.args.history.now c.args.failed.now.nodes.items there.0 w.in-Some.child.node c.requires.failed there.1 there.2)))
  | in-None w ↦
      tried_more (g.O.SeqObject.sequential c.args.object.now) c.args.history.now c.args.node.now c.args.order.now c.loop-j.j c.loop-j.invariant
      (subst (λ q. IsFailing (g.O.SeqObject.sequential c.args.object.now) c.args.history.now c.args.node.now q) c.candidate_at-q.ensures
      (rw w.in-None.is at c.in_ok-child.ensures.none))
]

pub returns-clause-none : goal.returns-clause-none
returns-clause-none g c =
    let many = c.len.ensures in
    let t = c.loop-j-test.false in
    tried_all (g.O.SeqObject.sequential c.args.object.now) c.args.history.now c.args.node.now c.args.order.now c.loop-j.j c.requires.choice (omega arith) c.loop-j.invariant
