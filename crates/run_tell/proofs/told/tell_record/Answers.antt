use Rattle.run_tell.proofs.Vocabulary.{Appends, AppendsPrefix, AppendsPrefix-nil, Excerpt, ap, arith, count_in, event_shown, events_shown, length, length-map, opened_world, opening_shown, option_map, rules, start_shown, subst, sym, ◌<◌, ◌∙◌, ◌≡◌}
use Rattle.run_tell.proofs.Tellings.{WritesText-err, scenes_few, text_is}
use Rattle.run_tell.proofs.told.tell_record.Goals as goal

pub returns-in-Some-clause-told : goal.returns-in-Some-clause-told
returns-in-Some-clause-told g c = AppendsPrefix-nil _ _

pub returns-in_err-start-clause-told : goal.returns-in_err-start-clause-told
returns-in_err-start-clause-told g c = WritesText-err _ _ _ _ (search rules) (AppendsPrefix-nil _ _)

pub returns-in_err-opened-clause-told : goal.returns-in_err-opened-clause-told
returns-in_err-opened-clause-told g c = WritesText-err _ _ _ _ (search rules) (AppendsPrefix-nil _ _)

pub tell_events-requires-clause-numbers : goal.tell_events-requires-clause-numbers
tell_events-requires-clause-numbers g c =
    let r = c.args.recorded.now in
    let object = g.O.SeqObject.sequential c.object-object.result.now in
    let few = scenes_few object g.O.Spoken.language g.O.Spoken.state_text c.is_whole.result c.args.range.from c.count-count.result (opened_world r.processes object.initial r.first) (events_shown r.events) c.in_ok-start.scenes (ap (λ (e : Excerpt). e.scenes) c.in_ok-start.ensures) in
    let fits = c.promise.ensures.recording.fits in
    let most = c.promise.ensures.recording.limited in
    let shown : length (events_shown r.events) ≡ length r.events = length-map r.events event_shown in
    let first : c.args.range.from < 18446744073709551616 = search rules in
    omega (arith, few, fits, most, shown, first)

-- the text that was told is that of the record
pub returns-clause-told : goal.returns-clause-told
returns-clause-told g c =
    let r = c.args.recorded.now in
    let is_count : c.count-count.result ≡ count_in c.args.range (length (events_shown r.events)) = c.count-count.ensures.count ∙ ap (count_in c.args.range) (c.len-events.ensures.value ∙ ap length c.events.ensures ∙ sym (length-map r.events event_shown)) in
    let is = text_is g.T.Telling.wording c.args.range g.O.SeqObject.sequential g.O.Spoken.language g.O.Spoken.state_text c.args.name.now r c.object-object.result.now c.is_whole.result c.count-count.result (option_map start_shown c.in_ok-start.start) c.in_ok-start.scenes (opening_shown c.in_ok-opened.opened) c.args.lines.now c.args.remarks.now
    (search rules) c.is_whole.ensures is_count c.in_ok-start.ensures c.in_ok-opened.ensures in
    subst (Appends (g.W.TextOut.contents c.args.out.now) (g.W.TextOut.contents c.tell_events.new.out)) is c.in_ok-tell_events.ensures.told

pub returns-in_err-tell_events-clause-told : goal.returns-in_err-tell_events-clause-told
returns-in_err-tell_events-clause-told g c =
    let r = c.args.recorded.now in
    let is_count : c.count-count.result ≡ count_in c.args.range (length (events_shown r.events)) = c.count-count.ensures.count ∙ ap (count_in c.args.range) (c.len-events.ensures.value ∙ ap length c.events.ensures ∙ sym (length-map r.events event_shown)) in
    let is = text_is g.T.Telling.wording c.args.range g.O.SeqObject.sequential g.O.Spoken.language g.O.Spoken.state_text c.args.name.now r c.object-object.result.now c.is_whole.result c.count-count.result (option_map start_shown c.in_ok-start.start) c.in_ok-start.scenes (opening_shown c.in_ok-opened.opened) c.args.lines.now c.args.remarks.now
    (search rules) c.is_whole.ensures is_count c.in_ok-start.ensures c.in_ok-opened.ensures in
    WritesText-err _ _ _ _ (search rules) (subst (AppendsPrefix (g.W.TextOut.contents c.args.out.now) (g.W.TextOut.contents c.tell_events.new.out)) is c.in_err-tell_events.ensures.told)
