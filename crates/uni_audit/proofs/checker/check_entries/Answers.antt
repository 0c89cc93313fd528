use Rattle.uni_audit.proofs.Vocabulary.{HasGoneOver, [], ap, at_drop_all, entries_verdict, refl, subst, sym, take, take_all, take_more, ◌++◌, ◌+◌, ◌∙◌, ◌∷◌, ◌≡◌}
use Rattle.uni_audit.proofs.Replay.{bad_entry_at, good_entry_at}
use Rattle.uni_audit.proofs.checker.check_entries.Goals as goal

pub loop-entry-init : goal.loop-entry-init
loop-entry-init g c = record { over = c.requires; rest = λ later. refl }

pub returns-in_default : goal.returns-in_default
returns-in_default g c = record {
  verdict = λ later. bad_entry_at g.O.Resp.PartialEq.eq (g.O.SeqObject.sequential c.args.object.now) c.loop-entry.check.state c.args.entries.now c.loop-entry.entry-index c.entry-item.result
      c.loop-entry-test.true c.entry-item.is later _ (c.loop-entry.invariant.rest later) c.in_ok-verdict.verdict _
      (c.in_ok-verdict.ensures.verdict _ c.loop-entry.invariant.over) c.in_default.not-Agrees;
  gone_over = λ agrees. absurd (c.in_default.not-Agrees agrees);
}

pub loop-entry-preserved : goal.loop-entry-preserved
loop-entry-preserved g c =
    let entries = c.args.entries.now in
    let i = c.loop-entry.entry-index in
    let more : take i entries ++ c.entry-item.result ∷ [] ≡ take (i + 1) entries =
    ap (λ e. take i entries ++ e ∷ []) c.entry-item.is ∙ sym (take_more entries i c.entry-item.result c.loop-entry-test.true) in
    record {
      over = subst (λ earlier. HasGoneOver earlier c.check_entry.new.check) more (c.in_ok-verdict.ensures.gone_over _ c.loop-entry.invariant.over c.in-Agrees.is);
      rest = λ later. good_entry_at g.O.Resp.PartialEq.eq (g.O.SeqObject.sequential c.args.object.now) c.loop-entry.check.state entries i c.entry-item.result
          c.loop-entry-test.true c.entry-item.is later _ (c.loop-entry.invariant.rest later) c.check_entry.new.check.state
          (sym c.in-Agrees.is ∙ c.in_ok-verdict.ensures.verdict _ c.loop-entry.invariant.over) (c.in_ok-verdict.ensures.state c.in-Agrees.is);
    }

pub returns-clause-verdict : goal.returns-clause-verdict
returns-clause-verdict g c = λ later.
    let verdict = entries_verdict g.O.Resp.PartialEq.eq (g.O.SeqObject.sequential c.args.object.now) c.loop-entry.check.state in
    ap (λ earlier. verdict earlier later) (sym (take_all c.loop-entry.entry-index c.args.entries.now c.loop-entry-test.false))
    ∙ sym (at_drop_all (λ left. verdict (take c.loop-entry.entry-index c.args.entries.now) (left ++ later)) c.args.entries.now c.loop-entry.entry-index c.loop-entry-test.false)
    ∙ c.loop-entry.invariant.rest later

pub returns-clause-gone_over : goal.returns-clause-gone_over
returns-clause-gone_over g c = λ _.
    subst (λ entries. HasGoneOver entries c.loop-entry.check) (take_all c.loop-entry.entry-index c.args.entries.now c.loop-entry-test.false) c.loop-entry.invariant.over
