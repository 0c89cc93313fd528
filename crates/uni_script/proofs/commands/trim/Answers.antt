use Rattle.uni_script.proofs.Vocabulary.{CommandResult, History, IsEndRefused, Pending, Sequence, SpokenObject, ap, session_after, session_of, standing_of, subst, sym, trimmed_text, world_of, ◌∙◌}
use Rattle.uni_record.specs.declared.event.Event.TheVariants as stored
use Rattle.uni_script.proofs.Stepping.{session_of-event}
use Rattle.uni_script.proofs.Results.{refusal_of_end-Pending, refusal_of_end-SeqFull, refusal_of_end-HistoryFull, refusal_of_end-none, session_after-refused, result_of_trim-ended, result_of_trim-refused}
use Rattle.uni_script.proofs.commands.trim.Goals as goal

pub returns-in-Ok-clause-session : goal.returns-in-Ok-clause-session
returns-in-Ok-clause-session g c =
    let o : SpokenObject _ _ _ = record { object = g.O.SeqObject.sequential c.args.session.now.world.object; language = g.O.Spoken.language } in
    let b = session_of c.args.session.now in
    session_of-event o c.args.session.now c.trim.new.self stored.Trim c.in-Ok.ensures.fixed c.in-Ok.ensures.event c.in-Ok.ensures.trimmed
    ∙ ap (λ (m : CommandResult _). session_after o b m.events) (sym (result_of_trim-ended b (refusal_of_end-none c.args.session.now (world_of c.args.session.now.world).n c.in-Ok.ensures.allowed)))

pub returns-in-Ok-clause-answer : goal.returns-in-Ok-clause-answer
returns-in-Ok-clause-answer g c =
    let b = session_of c.args.session.now in
    ap trimmed_text c.in-Ok.ensures.number
    ∙ ap (λ (m : CommandResult _). m.text) (sym (result_of_trim-ended b (refusal_of_end-none c.args.session.now (world_of c.args.session.now.world).n c.in-Ok.ensures.allowed)))

pub returns-in-Err-Pending-clause-session : goal.returns-in-Err-Pending-clause-session
returns-in-Err-Pending-clause-session g c =
    let o : SpokenObject _ _ _ = record { object = g.O.SeqObject.sequential c.args.session.now.world.object; language = g.O.Spoken.language } in
    let b = session_of c.args.session.now in
    let n = (world_of c.args.session.now.world).n in
    let why = subst (IsEndRefused (standing_of c.args.session.now) n) c.in-Err-Pending.field-0-is c.in-Err-Pending.ensures.refused in
    session_after-refused o b _ _ (Pending c.in-Err-Pending.process) (ap session_of c.in-Err-Pending.ensures.unchanged) (result_of_trim-refused b _ (refusal_of_end-Pending c.args.session.now n c.in-Err-Pending.process why))

pub returns-in-Err-SeqFull-clause-session : goal.returns-in-Err-SeqFull-clause-session
returns-in-Err-SeqFull-clause-session g c =
    let o : SpokenObject _ _ _ = record { object = g.O.SeqObject.sequential c.args.session.now.world.object; language = g.O.Spoken.language } in
    let b = session_of c.args.session.now in
    let n = (world_of c.args.session.now.world).n in
    let why = subst (IsEndRefused (standing_of c.args.session.now) n) c.in-Err-SeqFull.field-0-is c.in-Err-SeqFull.ensures.refused in
    session_after-refused o b _ _ Sequence (ap session_of c.in-Err-SeqFull.ensures.unchanged) (result_of_trim-refused b _ (refusal_of_end-SeqFull c.args.session.now n why))

pub returns-in-Err-HistoryFull-clause-session : goal.returns-in-Err-HistoryFull-clause-session
returns-in-Err-HistoryFull-clause-session g c =
    let o : SpokenObject _ _ _ = record { object = g.O.SeqObject.sequential c.args.session.now.world.object; language = g.O.Spoken.language } in
    let b = session_of c.args.session.now in
    let n = (world_of c.args.session.now.world).n in
    let why = subst (IsEndRefused (standing_of c.args.session.now) n) c.in-Err-HistoryFull.field-0-is c.in-Err-HistoryFull.ensures.refused in
    session_after-refused o b _ _ History (ap session_of c.in-Err-HistoryFull.ensures.unchanged) (result_of_trim-refused b _ (refusal_of_end-HistoryFull c.args.session.now n why))

pub returns-in-Err-Pending-clause-answer : goal.returns-in-Err-Pending-clause-answer
returns-in-Err-Pending-clause-answer g c =
    let n = (world_of c.args.session.now.world).n in
    let why = subst (IsEndRefused (standing_of c.args.session.now) n) c.in-Err-Pending.field-0-is c.in-Err-Pending.ensures.refused in
    ap (λ (m : CommandResult _). m.text) (sym (result_of_trim-refused (session_of c.args.session.now) _ (refusal_of_end-Pending c.args.session.now n c.in-Err-Pending.process why)))

pub returns-in-Err-SeqFull-clause-answer : goal.returns-in-Err-SeqFull-clause-answer
returns-in-Err-SeqFull-clause-answer g c =
    let n = (world_of c.args.session.now.world).n in
    let why = subst (IsEndRefused (standing_of c.args.session.now) n) c.in-Err-SeqFull.field-0-is c.in-Err-SeqFull.ensures.refused in
    ap (λ (m : CommandResult _). m.text) (sym (result_of_trim-refused (session_of c.args.session.now) _ (refusal_of_end-SeqFull c.args.session.now n why)))

pub returns-in-Err-HistoryFull-clause-answer : goal.returns-in-Err-HistoryFull-clause-answer
returns-in-Err-HistoryFull-clause-answer g c =
    let n = (world_of c.args.session.now.world).n in
    let why = subst (IsEndRefused (standing_of c.args.session.now) n) c.in-Err-HistoryFull.field-0-is c.in-Err-HistoryFull.ensures.refused in
    ap (λ (m : CommandResult _). m.text) (sym (result_of_trim-refused (session_of c.args.session.now) _ (refusal_of_end-HistoryFull c.args.session.now n why)))

pub returns-in-Ok-clause-refusal : goal.returns-in-Ok-clause-refusal
returns-in-Ok-clause-refusal g c = sym (refusal_of_end-none c.args.session.now (world_of c.args.session.now.world).n c.in-Ok.ensures.allowed)

pub returns-in-Err-Pending-clause-refusal : goal.returns-in-Err-Pending-clause-refusal
returns-in-Err-Pending-clause-refusal g c =
    let n = (world_of c.args.session.now.world).n in
    let why = subst (IsEndRefused (standing_of c.args.session.now) n) c.in-Err-Pending.field-0-is c.in-Err-Pending.ensures.refused in
    sym (refusal_of_end-Pending c.args.session.now n c.in-Err-Pending.process why)

pub returns-in-Err-SeqFull-clause-refusal : goal.returns-in-Err-SeqFull-clause-refusal
returns-in-Err-SeqFull-clause-refusal g c =
    let n = (world_of c.args.session.now.world).n in
    let why = subst (IsEndRefused (standing_of c.args.session.now) n) c.in-Err-SeqFull.field-0-is c.in-Err-SeqFull.ensures.refused in
    sym (refusal_of_end-SeqFull c.args.session.now n why)

pub returns-in-Err-HistoryFull-clause-refusal : goal.returns-in-Err-HistoryFull-clause-refusal
returns-in-Err-HistoryFull-clause-refusal g c =
    let n = (world_of c.args.session.now.world).n in
    let why = subst (IsEndRefused (standing_of c.args.session.now) n) c.in-Err-HistoryFull.field-0-is c.in-Err-HistoryFull.ensures.refused in
    sym (refusal_of_end-HistoryFull c.args.session.now n why)
