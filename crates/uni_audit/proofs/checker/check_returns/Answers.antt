use Rattle.uni_audit.proofs.Vocabulary.{AreMarked, [], ap, at_drop_all, length, returns_verdict, subst, sym, take, take_at, take_more, ◌++◌, ◌+◌, ◌∙◌, ◌∷◌, ◌≡◌}
use Rattle.uni_audit.proofs.Replay.{bad_return_at, good_return_at}
use Rattle.uni_audit.proofs.checker.check_returns.Goals as goal

pub returns-in_default : goal.returns-in_default
returns-in_default g c = record {
  verdict = λ entries over.
      let marked : AreMarked entries (take c.loop-returned.returned-index c.args.returns.now) c.deref_mut.result.now = rw (← c.deref_mut.ensures.value) at c.loop-returned.invariant.marked entries over in
      bad_return_at g.O.Resp.PartialEq.eq entries c.args.returns.now c.loop-returned.returned-index c.returned-item.result c.loop-returned-test.true c.returned-item.is _
      c.return_verdict-fault.result (c.loop-returned.invariant.rest entries over) (c.return_verdict-fault.ensures.verdict entries _ over marked) c.in_default.not-Agrees;
}

pub loop-returned-preserved : goal.loop-returned-preserved
loop-returned-preserved g c =
    let returns = c.args.returns.now in
    let i = c.loop-returned.returned-index in
    let returned = c.returned-item.result in
    let more : take i returns ++ returned ∷ [] ≡ take (i + 1) returns =
    ap (λ r. take i returns ++ r ∷ []) c.returned-item.is ∙ sym (take_more returns i returned c.loop-returned-test.true) in
    let long : length c.return_verdict-fault.new.marks ≡ c.loop-returned.marks.len = c.return_verdict-fault.ensures.each ∙ c.deref_mut.ensures.len in
    record {
      long = rw (take_at c.return_verdict-fault.new.marks _ c.loop-returned.marks.len long) (c.return_verdict-fault.ensures.each ∙ ap length c.deref_mut.ensures.value ∙ c.loop-returned.invariant.long);
      marked = λ entries over.
          let marked : AreMarked entries (take i returns) c.deref_mut.result.now = rw (← c.deref_mut.ensures.value) at c.loop-returned.invariant.marked entries over in
          rw (take_at c.return_verdict-fault.new.marks _ c.loop-returned.marks.len long) (subst (λ earlier. AreMarked entries earlier c.return_verdict-fault.new.marks) more (c.return_verdict-fault.ensures.marked entries _ over marked c.in-Agrees.is));
      rest = λ entries over.
          let marked : AreMarked entries (take i returns) c.deref_mut.result.now = rw (← c.deref_mut.ensures.value) at c.loop-returned.invariant.marked entries over in
          good_return_at g.O.Resp.PartialEq.eq entries returns i returned c.loop-returned-test.true c.returned-item.is _ (c.loop-returned.invariant.rest entries over)
          (sym c.in-Agrees.is ∙ c.return_verdict-fault.ensures.verdict entries _ over marked);
    }

pub returns : goal.returns
returns g c = record {
  verdict = λ entries over.
      sym (at_drop_all (returns_verdict g.O.Resp.PartialEq.eq entries (take c.loop-returned.returned-index c.args.returns.now)) c.args.returns.now c.loop-returned.returned-index c.loop-returned-test.false)
      ∙ c.loop-returned.invariant.rest entries over;
}
