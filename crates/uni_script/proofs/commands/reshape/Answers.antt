use Rattle.uni_script.proofs.Vocabulary.{CommandResult, Count, History, IsReshapeRefused, Pending, Sequence, SpokenObject, ap, reshaped_text, session_after, session_of, standing_of, subst, sym, ◌∙◌}
use Rattle.uni_record.specs.declared.event.Event.TheVariants as stored
use Rattle.uni_script.proofs.Stepping.{session_of-event}
use Rattle.uni_script.proofs.Results.{refusal_of_end-Pending, refusal_of_end-SeqFull, refusal_of_end-HistoryFull, refusal_of_end-none, refusal_of_reshape-count, refusal_of_reshape-BadCount, session_after-refused, result_of_reshape-ended, result_of_reshape-refused}
use Rattle.uni_script.proofs.commands.reshape.Goals as goal

pub returns-in-Ok-clause-session : goal.returns-in-Ok-clause-session
returns-in-Ok-clause-session g c =
    let o : SpokenObject _ _ _ = record { object = g.O.SeqObject.sequential c.args.session.now.world.object; language = g.O.Spoken.language } in
    let b = session_of c.args.session.now in
    let allowed = c.in-Ok.ensures.allowed in
    session_of-event o c.args.session.now c.reshape.new.self (stored.Reshape c.args.processes) c.in-Ok.ensures.fixed c.in-Ok.ensures.event c.in-Ok.ensures.reshaped
    ∙ ap (λ (m : CommandResult _). session_after o b m.events)
    (sym (result_of_reshape-ended b c.args.processes (refusal_of_reshape-count c.args.session.now c.args.processes allowed.0 ∙ refusal_of_end-none c.args.session.now c.args.processes allowed.1)))

pub returns-in-Ok-clause-answer : goal.returns-in-Ok-clause-answer
returns-in-Ok-clause-answer g c =
    let b = session_of c.args.session.now in
    let allowed = c.in-Ok.ensures.allowed in
    ap (reshaped_text c.args.processes) c.in-Ok.ensures.number
    ∙ ap (λ (m : CommandResult _). m.text) (sym (result_of_reshape-ended b c.args.processes (refusal_of_reshape-count c.args.session.now c.args.processes allowed.0 ∙ refusal_of_end-none c.args.session.now c.args.processes allowed.1)))

pub returns-in-Err-BadCount-clause-session : goal.returns-in-Err-BadCount-clause-session
returns-in-Err-BadCount-clause-session g c =
    let o : SpokenObject _ _ _ = record { object = g.O.SeqObject.sequential c.args.session.now.world.object; language = g.O.Spoken.language } in
    let b = session_of c.args.session.now in
    let why = subst (IsReshapeRefused (standing_of c.args.session.now) c.args.processes) c.in-Err-BadCount.field-0-is c.in-Err-BadCount.ensures.refused in
    session_after-refused o b _ _ (Count c.args.processes) (ap session_of c.in-Err-BadCount.ensures.unchanged) (result_of_reshape-refused b c.args.processes _ (refusal_of_reshape-BadCount c.args.session.now c.args.processes why))

pub returns-in-Err-Pending-clause-session : goal.returns-in-Err-Pending-clause-session
returns-in-Err-Pending-clause-session g c =
    let o : SpokenObject _ _ _ = record { object = g.O.SeqObject.sequential c.args.session.now.world.object; language = g.O.Spoken.language } in
    let b = session_of c.args.session.now in
    let why = subst (IsReshapeRefused (standing_of c.args.session.now) c.args.processes) c.in-Err-Pending.field-0-is c.in-Err-Pending.ensures.refused in
    session_after-refused o b _ _ (Pending c.in-Err-Pending.process) (ap session_of c.in-Err-Pending.ensures.unchanged)
    (result_of_reshape-refused b c.args.processes _ (refusal_of_reshape-count c.args.session.now c.args.processes why.0 ∙ refusal_of_end-Pending c.args.session.now c.args.processes c.in-Err-Pending.process why.1))

pub returns-in-Err-SeqFull-clause-session : goal.returns-in-Err-SeqFull-clause-session
returns-in-Err-SeqFull-clause-session g c =
    let o : SpokenObject _ _ _ = record { object = g.O.SeqObject.sequential c.args.session.now.world.object; language = g.O.Spoken.language } in
    let b = session_of c.args.session.now in
    let why = subst (IsReshapeRefused (standing_of c.args.session.now) c.args.processes) c.in-Err-SeqFull.field-0-is c.in-Err-SeqFull.ensures.refused in
    session_after-refused o b _ _ Sequence (ap session_of c.in-Err-SeqFull.ensures.unchanged)
    (result_of_reshape-refused b c.args.processes _ (refusal_of_reshape-count c.args.session.now c.args.processes why.0 ∙ refusal_of_end-SeqFull c.args.session.now c.args.processes why.1))

pub returns-in-Err-HistoryFull-clause-session : goal.returns-in-Err-HistoryFull-clause-session
returns-in-Err-HistoryFull-clause-session g c =
    let o : SpokenObject _ _ _ = record { object = g.O.SeqObject.sequential c.args.session.now.world.object; language = g.O.Spoken.language } in
    let b = session_of c.args.session.now in
    let why = subst (IsReshapeRefused (standing_of c.args.session.now) c.args.processes) c.in-Err-HistoryFull.field-0-is c.in-Err-HistoryFull.ensures.refused in
    session_after-refused o b _ _ History (ap session_of c.in-Err-HistoryFull.ensures.unchanged)
    (result_of_reshape-refused b c.args.processes _ (refusal_of_reshape-count c.args.session.now c.args.processes why.0 ∙ refusal_of_end-HistoryFull c.args.session.now c.args.processes why.1))

pub returns-in-Err-Pending-clause-answer : goal.returns-in-Err-Pending-clause-answer
returns-in-Err-Pending-clause-answer g c =
    let why = subst (IsReshapeRefused (standing_of c.args.session.now) c.args.processes) c.in-Err-Pending.field-0-is c.in-Err-Pending.ensures.refused in
    ap (λ (m : CommandResult _). m.text)
    (sym (result_of_reshape-refused (session_of c.args.session.now) c.args.processes _ (refusal_of_reshape-count c.args.session.now c.args.processes why.0 ∙ refusal_of_end-Pending c.args.session.now c.args.processes c.in-Err-Pending.process why.1)))

pub returns-in-Err-SeqFull-clause-answer : goal.returns-in-Err-SeqFull-clause-answer
returns-in-Err-SeqFull-clause-answer g c =
    let why = subst (IsReshapeRefused (standing_of c.args.session.now) c.args.processes) c.in-Err-SeqFull.field-0-is c.in-Err-SeqFull.ensures.refused in
    ap (λ (m : CommandResult _). m.text)
    (sym (result_of_reshape-refused (session_of c.args.session.now) c.args.processes _ (refusal_of_reshape-count c.args.session.now c.args.processes why.0 ∙ refusal_of_end-SeqFull c.args.session.now c.args.processes why.1)))

pub returns-in-Err-HistoryFull-clause-answer : goal.returns-in-Err-HistoryFull-clause-answer
returns-in-Err-HistoryFull-clause-answer g c =
    let why = subst (IsReshapeRefused (standing_of c.args.session.now) c.args.processes) c.in-Err-HistoryFull.field-0-is c.in-Err-HistoryFull.ensures.refused in
    ap (λ (m : CommandResult _). m.text)
    (sym (result_of_reshape-refused (session_of c.args.session.now) c.args.processes _ (refusal_of_reshape-count c.args.session.now c.args.processes why.0 ∙ refusal_of_end-HistoryFull c.args.session.now c.args.processes why.1)))

pub returns-in-Ok-clause-refusal : goal.returns-in-Ok-clause-refusal
returns-in-Ok-clause-refusal g c =
    let allowed = c.in-Ok.ensures.allowed in
    sym (refusal_of_reshape-count c.args.session.now c.args.processes allowed.0 ∙ refusal_of_end-none c.args.session.now c.args.processes allowed.1)

pub returns-in-Err-BadCount-clause-refusal : goal.returns-in-Err-BadCount-clause-refusal
returns-in-Err-BadCount-clause-refusal g c =
    let why = subst (IsReshapeRefused (standing_of c.args.session.now) c.args.processes) c.in-Err-BadCount.field-0-is c.in-Err-BadCount.ensures.refused in
    sym (refusal_of_reshape-BadCount c.args.session.now c.args.processes why)

pub returns-in-Err-Pending-clause-refusal : goal.returns-in-Err-Pending-clause-refusal
returns-in-Err-Pending-clause-refusal g c =
    let why = subst (IsReshapeRefused (standing_of c.args.session.now) c.args.processes) c.in-Err-Pending.field-0-is c.in-Err-Pending.ensures.refused in
    sym (refusal_of_reshape-count c.args.session.now c.args.processes why.0 ∙ refusal_of_end-Pending c.args.session.now c.args.processes c.in-Err-Pending.process why.1)

pub returns-in-Err-SeqFull-clause-refusal : goal.returns-in-Err-SeqFull-clause-refusal
returns-in-Err-SeqFull-clause-refusal g c =
    let why = subst (IsReshapeRefused (standing_of c.args.session.now) c.args.processes) c.in-Err-SeqFull.field-0-is c.in-Err-SeqFull.ensures.refused in
    sym (refusal_of_reshape-count c.args.session.now c.args.processes why.0 ∙ refusal_of_end-SeqFull c.args.session.now c.args.processes why.1)

pub returns-in-Err-HistoryFull-clause-refusal : goal.returns-in-Err-HistoryFull-clause-refusal
returns-in-Err-HistoryFull-clause-refusal g c =
    let why = subst (IsReshapeRefused (standing_of c.args.session.now) c.args.processes) c.in-Err-HistoryFull.field-0-is c.in-Err-HistoryFull.ensures.refused in
    sym (refusal_of_reshape-count c.args.session.now c.args.processes why.0 ∙ refusal_of_end-HistoryFull c.args.session.now c.args.processes why.1)
