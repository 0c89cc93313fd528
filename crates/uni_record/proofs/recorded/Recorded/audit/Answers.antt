use Rattle.uni_record.proofs.Vocabulary.{HasGoneOver, IfOk-weaker, None, all-taken, ap, append-nil, arith, log, refl, slice_get, slice_get-map, subst, within-at, world_of, ◌++◌, ◌+◌, ◌∙◌, ◌≡◌}
use Rattle.uni_record.proofs.Audits.{told, told_at, present_of, ended_agree, returns_agree, entry_agrees, rest_agrees, gone_further}
use Rattle.uni_record.proofs.recorded.Recorded.audit.Goals as goal

pub returns-in_default : goal.returns-in_default
returns-in_default g c = record {
  agrees = (ended_agree g.O.SeqObject.sequential g.O.Resp.PartialEq.eq g.met.O.SeqObject.same_resp c.args.self.now c.promise.ensures.recording (c.joined_log_is_legal.ensures _) (c.joined_log_holds_responses.ensures _)
      c.deref-2.result.now (c.deref-2.ensures.value ∙ ap (λ r. r.ended) c.self.view_is) _ (ap g.O.SeqObject.sequential (c.object-object.ensures ∙ ap (λ r. r.world.object) c.self.view_is))
      c.in_ok-check.check.state c.in_ok-check.ensures.start c.in_ok-verdict.verdict _ (c.in_ok-verdict.ensures.verdict (present_of c.args.self.now))).0;
}

pub loop-check-init : goal.loop-check-init
loop-check-init g c =
    let r = c.args.self.now in
    let kept = c.deref-2.ensures.value ∙ ap (λ r. r.ended) c.self.view_is in
    let meant = c.object-object.ensures ∙ ap (λ r. r.world.object) c.self.view_is in
    let both = ended_agree g.O.SeqObject.sequential g.O.Resp.PartialEq.eq g.met.O.SeqObject.same_resp r c.promise.ensures.recording (c.joined_log_is_legal.ensures _) (c.joined_log_holds_responses.ensures _)
    c.deref-2.result.now kept _ (ap g.O.SeqObject.sequential meant)
    c.in_ok-check.check.state c.in_ok-check.ensures.start c.in_ok-verdict.verdict _ (c.in_ok-verdict.ensures.verdict (present_of r)) in
    record {
      world = c.cursor-cursor.ensures.world ∙ c.of.ensures ∙ ap (λ r. r.world) c.self.view_is;
      over = rw (c.cursor-cursor.ensures.first, append-nil, ← kept) (c.in_ok-verdict.ensures.gone_over c.in-Agrees.is);
      rest = rw (c.cursor-cursor.ensures.first, append-nil, ← kept, ← meant) both.1;
    }

pub returns-in_default-verdict : goal.returns-in_default-verdict
returns-in_default-verdict g c =
    let r = c.args.self.now in
    let meant = c.object-object.ensures ∙ ap (λ r. r.world.object) c.self.view_is in
    let at = told_at (log (world_of r.world)) c.loop-check.cursor.passed c.in-Some.entry (rw (c.in-Some.is, c.loop-check.invariant.world) at c.in_ok-entry.ensures.entry) in
    record {
      agrees = rw meant at c.in_ok-verdict-2.ensures.verdict _ c.loop-check.invariant.over
          ∙ entry_agrees g.O.Resp.PartialEq.eq (g.O.SeqObject.sequential r.world.object) c.loop-check.check.state r.ended (present_of r) c.loop-check.cursor.passed c.in-Some.entry at c.loop-check.invariant.rest;
    }

pub loop-check-smaller : goal.loop-check-smaller
loop-check-smaller g c =
    let r = c.args.self.now in
    let at = told_at (log (world_of r.world)) c.loop-check.cursor.passed c.in-Some.entry (rw (c.in-Some.is, c.loop-check.invariant.world) at c.in_ok-entry.ensures.entry) in
    let passed : c.next_entry.new.self.passed ≡ c.loop-check.cursor.passed + 1 = rw c.in-Some.is at c.in_ok-entry.ensures.passed in
    let within = within-at (present_of r) c.loop-check.cursor.passed c.in-Some.entry at in
    omega arith

pub loop-check-preserved : goal.loop-check-preserved
loop-check-preserved g c =
    let r = c.args.self.now in
    let meant = c.object-object.ensures ∙ ap (λ r. r.world.object) c.self.view_is in
    let at = told_at (log (world_of r.world)) c.loop-check.cursor.passed c.in-Some.entry (rw (c.in-Some.is, c.loop-check.invariant.world) at c.in_ok-entry.ensures.entry) in
    let passed : c.next_entry.new.self.passed ≡ c.loop-check.cursor.passed + 1 = rw c.in-Some.is at c.in_ok-entry.ensures.passed in
    let object = g.O.SeqObject.sequential r.world.object in
    record {
      world = c.next_entry.ensures.world ∙ c.loop-check.invariant.world;
      over = rw passed (subst (λ entries. HasGoneOver entries c.check_entry.new.check)
          (gone_further g.O.Resp.PartialEq.eq object c.loop-check.check.state r.ended (present_of r) c.loop-check.cursor.passed c.in-Some.entry at c.loop-check.invariant.rest)
          (c.in_ok-verdict-2.ensures.gone_over _ c.loop-check.invariant.over c.in-Agrees-verdict.is));
      rest = rw passed (rest_agrees g.O.Resp.PartialEq.eq object c.loop-check.check.state r.ended (present_of r) c.loop-check.cursor.passed c.in-Some.entry at c.loop-check.invariant.rest
          c.check_entry.new.check.state (rw meant at c.in_ok-verdict-2.ensures.state c.in-Agrees-verdict.is));
    }

pub check_returns-requires : goal.check_returns-requires
check_returns-requires g c = record { gone_over = (_, c.loop-check.invariant.over) }

pub returns : goal.returns
returns g c =
    let r = c.args.self.now in
    let none : slice_get (present_of r) c.loop-check.cursor.passed ≡ None =
    slice_get-map told (log (world_of r.world)) c.loop-check.cursor.passed ∙ rw (← (rw (c.in_default-2.is, c.loop-check.invariant.world) at c.in_ok-entry.ensures.entry)) refl in
    let over = rw (all-taken (present_of r) c.loop-check.cursor.passed none) at c.loop-check.invariant.over in
    let told = c.deref-3.ensures.value ∙ ap (λ r. r.returns) c.self.view_is in
    record {
      agrees = IfOk-weaker c.check_returns.result _ _ (λ v is. is ∙ rw told (returns_agree g.O.SeqObject.sequential g.O.Resp.PartialEq.eq g.met.O.SeqObject.same_resp r c.promise.ensures.recording
          (c.joined_log_is_legal.ensures _) (c.joined_log_holds_responses.ensures _)))
          (c.check_returns.ensures.verdict (r.ended ++ present_of r) over);
    }
