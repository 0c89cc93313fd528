use Rattle.run_tell.proofs.Vocabulary.{IsTold, ap, default_run, fault_run, refl, session_of_record, text_of_session}
use Rattle.run_tell.proofs.Tellings.{IsToldBy-run, WritesSuch-text, else_range, no_fault_of_script, no_misdrawn, no_read}
use Rattle.run_tell.proofs.told.tell_script.Goals as goal

pub returns-clause-told : goal.returns-clause-told
returns-clause-told g c =
    let tell = text_of_session g.T.Telling.wording c.args.range in
    let of = c.tell_run.ensures in
    let run = c.in_ok-run.run' in
    let is = default_run _ _ run c.default.ensures c.in_ok-run.ensures.run in
    let version = is.3.2.version in
    let text = tell (session_of_record version run.record) run.lines.items run.remarks.items in
    WritesSuch-text c.tell_run.result (IsTold g.T.Telling.wording c.args.range (g.I.TextIn.remaining c.args.reader.now)) _ _ text _ of.range (λ e is. ap g.W.TextOut.contents (of.unwritten e is)) (of.told version)
    (λ fits. IsToldBy-run tell c.args.range _ run is text fits refl of.linearizable)

pub returns-clause-unwritten : goal.returns-clause-unwritten
returns-clause-unwritten g c = else_range c.tell_run.result _ c.tell_run.ensures.fault c.tell_run.ensures.unwritten

pub returns-clause-range : goal.returns-clause-range
returns-clause-range g c = λ e is. fault_run c.args.range _ c.in_ok-run.run' (default_run _ _ c.in_ok-run.run' c.default.ensures c.in_ok-run.ensures.run) e ((c.tell_run.ensures.range e).0 is)

pub returns-clause-fault : goal.returns-clause-fault
returns-clause-fault g c = λ e is fault. absurd (no_fault_of_script c.tell_run.result c.tell_run.ensures.fault e is fault)

pub returns-clause-reader : goal.returns-clause-reader
returns-clause-reader g c = λ is. absurd (no_read c.tell_run.result c.tell_run.ensures.fault is)

pub returns-clause-drawn : goal.returns-clause-drawn
returns-clause-drawn g c = no_misdrawn c.tell_run.result c.tell_run.ensures.fault
