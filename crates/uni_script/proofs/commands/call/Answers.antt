use Rattle.uni_script.proofs.Vocabulary.{Busy, CommandResult, History, IsBeginRefused, Process, Row, SpokenObject, ap, called_text, session_after, session_of, standing_of, subst, sym, ◌∙◌, ◌≡◌}
use Rattle.uni_record.specs.declared.event.Event.TheVariants as stored
use Rattle.uni_script.proofs.Stepping.{session_of-event}
use Rattle.uni_script.proofs.Results.{refusal_of_call-BadProcess, refusal_of_call-Busy, refusal_of_call-RowFull, refusal_of_call-HistoryFull, refusal_of_call-none, session_after-refused, result_of_call-begun, result_of_call-refused}
use Rattle.uni_script.proofs.commands.call.Goals as goal

pub returns-in-Ok-clause-session : goal.returns-in-Ok-clause-session
returns-in-Ok-clause-session g c =
    let o : SpokenObject _ _ _ = record { object = g.O.SeqObject.sequential c.args.session.now.world.object; language = g.O.Spoken.language } in
    let b = session_of c.args.session.now in
    session_of-event o c.args.session.now c.begin.new.self (stored.Call c.args.process c.args.inv.now) c.in-Ok.ensures.fixed c.in-Ok.ensures.event c.in-Ok.ensures.begun
    ∙ ap (λ (m : CommandResult _). session_after o b m.events) (sym (result_of_call-begun b c.args.process c.args.inv.now (refusal_of_call-none c.args.session.now c.args.process c.in-Ok.ensures.allowed)))

pub returns-in-Ok-clause-answer : goal.returns-in-Ok-clause-answer
returns-in-Ok-clause-answer g c =
    let b = session_of c.args.session.now in
    let named : called_text c.in-Ok.call ≡ called_text (record { process = c.args.process; nth = b.world.begun c.args.process }) = (let id = c.in-Ok.ensures.id in cc) in
    named ∙ ap (λ (m : CommandResult _). m.text) (sym (result_of_call-begun b c.args.process c.args.inv.now (refusal_of_call-none c.args.session.now c.args.process c.in-Ok.ensures.allowed)))

pub returns-in-Err-BadProcess-clause-session : goal.returns-in-Err-BadProcess-clause-session
returns-in-Err-BadProcess-clause-session g c =
    let o : SpokenObject _ _ _ = record { object = g.O.SeqObject.sequential c.args.session.now.world.object; language = g.O.Spoken.language } in
    let b = session_of c.args.session.now in
    let why = subst (IsBeginRefused (standing_of c.args.session.now) c.args.process) c.in-Err-BadProcess.field-0-is c.in-Err-BadProcess.ensures.refused in
    session_after-refused o b _ _ (Process c.args.process) (ap session_of c.in-Err-BadProcess.ensures.unchanged) (result_of_call-refused b c.args.process c.args.inv.now _ (refusal_of_call-BadProcess c.args.session.now c.args.process why))

pub returns-in-Err-Busy-clause-session : goal.returns-in-Err-Busy-clause-session
returns-in-Err-Busy-clause-session g c =
    let o : SpokenObject _ _ _ = record { object = g.O.SeqObject.sequential c.args.session.now.world.object; language = g.O.Spoken.language } in
    let b = session_of c.args.session.now in
    let why = subst (IsBeginRefused (standing_of c.args.session.now) c.args.process) c.in-Err-Busy.field-0-is c.in-Err-Busy.ensures.refused in
    session_after-refused o b _ _ (Busy c.in-Err-Busy.process) (ap session_of c.in-Err-Busy.ensures.unchanged) (result_of_call-refused b c.args.process c.args.inv.now _ (refusal_of_call-Busy c.args.session.now c.args.process c.in-Err-Busy.process why))

pub returns-in-Err-RowFull-clause-session : goal.returns-in-Err-RowFull-clause-session
returns-in-Err-RowFull-clause-session g c =
    let o : SpokenObject _ _ _ = record { object = g.O.SeqObject.sequential c.args.session.now.world.object; language = g.O.Spoken.language } in
    let b = session_of c.args.session.now in
    let why = subst (IsBeginRefused (standing_of c.args.session.now) c.args.process) c.in-Err-RowFull.field-0-is c.in-Err-RowFull.ensures.refused in
    session_after-refused o b _ _ (Row c.in-Err-RowFull.process) (ap session_of c.in-Err-RowFull.ensures.unchanged) (result_of_call-refused b c.args.process c.args.inv.now _ (refusal_of_call-RowFull c.args.session.now c.args.process c.in-Err-RowFull.process why))

pub returns-in-Err-HistoryFull-clause-session : goal.returns-in-Err-HistoryFull-clause-session
returns-in-Err-HistoryFull-clause-session g c =
    let o : SpokenObject _ _ _ = record { object = g.O.SeqObject.sequential c.args.session.now.world.object; language = g.O.Spoken.language } in
    let b = session_of c.args.session.now in
    let why = subst (IsBeginRefused (standing_of c.args.session.now) c.args.process) c.in-Err-HistoryFull.field-0-is c.in-Err-HistoryFull.ensures.refused in
    session_after-refused o b _ _ History (ap session_of c.in-Err-HistoryFull.ensures.unchanged) (result_of_call-refused b c.args.process c.args.inv.now _ (refusal_of_call-HistoryFull c.args.session.now c.args.process why))

pub returns-in-Ok-clause-refusal : goal.returns-in-Ok-clause-refusal
returns-in-Ok-clause-refusal g c = sym (refusal_of_call-none c.args.session.now c.args.process c.in-Ok.ensures.allowed)

pub returns-in-Err-BadProcess-clause-refusal : goal.returns-in-Err-BadProcess-clause-refusal
returns-in-Err-BadProcess-clause-refusal g c =
    let why = subst (IsBeginRefused (standing_of c.args.session.now) c.args.process) c.in-Err-BadProcess.field-0-is c.in-Err-BadProcess.ensures.refused in
    sym (refusal_of_call-BadProcess c.args.session.now c.args.process why)

pub returns-in-Err-Busy-clause-refusal : goal.returns-in-Err-Busy-clause-refusal
returns-in-Err-Busy-clause-refusal g c =
    let why = subst (IsBeginRefused (standing_of c.args.session.now) c.args.process) c.in-Err-Busy.field-0-is c.in-Err-Busy.ensures.refused in
    sym (refusal_of_call-Busy c.args.session.now c.args.process c.in-Err-Busy.process why)

pub returns-in-Err-RowFull-clause-refusal : goal.returns-in-Err-RowFull-clause-refusal
returns-in-Err-RowFull-clause-refusal g c =
    let why = subst (IsBeginRefused (standing_of c.args.session.now) c.args.process) c.in-Err-RowFull.field-0-is c.in-Err-RowFull.ensures.refused in
    sym (refusal_of_call-RowFull c.args.session.now c.args.process c.in-Err-RowFull.process why)

pub returns-in-Err-HistoryFull-clause-refusal : goal.returns-in-Err-HistoryFull-clause-refusal
returns-in-Err-HistoryFull-clause-refusal g c =
    let why = subst (IsBeginRefused (standing_of c.args.session.now) c.args.process) c.in-Err-HistoryFull.field-0-is c.in-Err-HistoryFull.ensures.refused in
    sym (refusal_of_call-HistoryFull c.args.session.now c.args.process why)
