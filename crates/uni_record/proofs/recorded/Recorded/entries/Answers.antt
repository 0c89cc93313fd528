use Rattle.uni_record.proofs.Vocabulary.{IfOk-weaker, IsAudited, ap, entry_shown, events_shown, log, log_of_run, map, meaning, opening, subst, world_of, ◌++◌, ◌∙◌, ◌≡◌}
use Rattle.uni_record.proofs.Agreed.{IsAudited-record}
use Rattle.uni_record.proofs.Promised.{entries_are_joined}
use Rattle.uni_record.proofs.recorded.Recorded.entries.Goals as goal

pub returns : goal.returns
returns g c =
    let inside = c.self.invariant.0 in
    let joined = IfOk-weaker c.entries_after.result _ _ (λ entries logged. entries_are_joined g.O.SeqObject.sequential _ c.in_ok-ended.ended.items entries.items inside
    (logged ∙ ap (λ w. map entry_shown c.in_ok-ended.ended.items ++ log (world_of w)) c.of.ensures) (c.in_ok-ended.ensures ∙ c.deref.ensures.value)) c.entries_after.ensures in
    record {
      joined = IfOk-weaker c.entries_after.result _ _ (λ entries is. subst (λ r. map entry_shown entries.items ≡ log_of_run (meaning g.O.SeqObject.sequential r) (opening g.O.SeqObject.sequential r) (events_shown r.events)) c.self.view_is is) joined;
      audited = IfOk-weaker c.entries_after.result _ _ (λ entries is. subst (λ r. IsAudited (meaning g.O.SeqObject.sequential r) entries.items r.returns) c.self.view_is
          (IsAudited-record g.O.SeqObject.sequential _ entries.items inside is (c.joined_log_is_legal.ensures _) (c.joined_log_holds_responses.ensures _))) joined;
    }
