use Rattle.uni_shared.proofs.Vocabulary.{IfSome_then, completed_in, completed_of, completed_of_process, events_shown, filter_map, invocation_by, map, meaning, opening, refl, sym, ◌∙◌, ◌≡◌}
use Rattle.uni_shared.proofs.Differing.{DifferFirstAt-found, IsMismatchOf-differing}
use Rattle.uni_shared.proofs.agreement.mismatch_of.Goals as goal

pub returns-clause-first : goal.returns-clause-first
returns-clause-first g c =
    let recorded = c.args.recorded.now in
    let receipts = c.receipts-receipts.result.now in
    let own : c.args.seat.now.process ≡ c.args.p = sym c.process.ensures.value ∙ c.if-process-p.false in
    let calls = completed_in (meaning g.O.SeqObject.sequential recorded) (opening g.O.SeqObject.sequential recorded) (events_shown recorded.events) in
    let by_return = c.returns.ensures ∙ c.promise.ensures.recording.returned in
    let by_count = c.counts.ensures ∙ c.promise.ensures.recording.counted in (
      refl,
      IsMismatchOf-differing g.O.SeqObject.sequential recorded c.args.seat.now c.args.p c.in_ok-place.place c.events.result receipts own c.events.ensures c.receipts-receipts.ensures
          (DifferFirstAt-found (map (λ r. r.inv) receipts) (filter_map (invocation_by c.args.p) c.events.result) (map completed_of receipts) (completed_of_process c.args.p calls)
          c.other_invocation-by_call.result c.other_return-by_return.result c.in_ok-place.place c.other_invocation-by_call.ensures.none c.other_invocation-by_call.ensures.first
          (λ none. c.other_return-by_return.ensures.none none calls by_return by_count)
          (IfSome_then c.other_return-by_return.result c.other_return-by_return.ensures.first (λ place first. first calls by_return by_count))
          c.in_ok-place.ensures.below_one c.in_ok-place.ensures.below_other c.in_ok-place.ensures.either),
    )
