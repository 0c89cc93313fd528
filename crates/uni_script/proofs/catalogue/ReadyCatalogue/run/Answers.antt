use Rattle.uni_script.proofs.Vocabulary.{Err, HasEnded, HasRun, IsPromisedSession, IsRan, IsRanAs, Some, [], ap, opened_session, rules, script_session, scripts, spoken_of, subst, summary_of_session, sym, ◌∙◌, ◌≡◌}
use Rattle.uni_script.specs.declared.grammar.ObjectName.TheVariants.{Queue, Directory, Book, Sticky}
use Rattle.uni_script.proofs.RunningOn.{HasEnded-map, HasEnded-err}
use Rattle.uni_script.proofs.Sharing.{scripts_are_about}
use Rattle.uni_script.proofs.catalogue.ReadyCatalogue.run.Goals as goal

pub returns-in_err-ran-in-Queue-clause-run : goal.returns-in_err-ran-in-Queue-clause-run
returns-in_err-ran-in-Queue-clause-run g c = λ old written remarks taken run.
    let e : c.from_residual.result ≡ Err c.in_err-ran-in-Queue.field-0.0 = search rules in
    subst (HasEnded (scripts c.args.options.now) old _ written _ remarks _ IsRan) (sym e)
    (HasEnded-err (scripts c.args.options.now) old _ written _ remarks _ (IsRanAs (spoken_of Queue) (script_session Queue c.args.header.version)) IsRan _ (c.in_err-ran-in-Queue.ensures.run (scripts c.args.options.now) (script_session Queue c.args.header.version) (scripts_are_about c.args.options.now Queue c.args.header.version) old written remarks taken
    (subst (λ name. HasRun (scripts c.args.options.now) old (g.I.TextIn.remaining c.args.reader.now) c.args.lines.now written (g.W.TextOut.contents c.args.writer.now) [] remarks (g.L.Listener.heard c.args.listener.now) taken (Some (script_session name c.args.header.version (opened_session (spoken_of name) c.args.options.now.history c.args.header)))) c.in-Queue.is run)))

pub returns-in_ok-ran-in-Queue-clause-run : goal.returns-in_ok-ran-in-Queue-clause-run
returns-in_ok-ran-in-Queue-clause-run g c = λ old written remarks taken run.
    HasEnded-map (scripts c.args.options.now) old _ written _ remarks _ (IsRanAs (spoken_of Queue) (script_session Queue c.args.header.version)) IsRan _ _ (λ n b is. (is.1 ∙ ap (summary_of_session n) (sym is.0), subst IsPromisedSession (sym is.0) is.2, (c.args.header.version, is.0)))
    (c.in_ok-ran-in-Queue.ensures.run (scripts c.args.options.now) (script_session Queue c.args.header.version) (scripts_are_about c.args.options.now Queue c.args.header.version) old written remarks taken
    (subst (λ name. HasRun (scripts c.args.options.now) old (g.I.TextIn.remaining c.args.reader.now) c.args.lines.now written (g.W.TextOut.contents c.args.writer.now) [] remarks (g.L.Listener.heard c.args.listener.now) taken (Some (script_session name c.args.header.version (opened_session (spoken_of name) c.args.options.now.history c.args.header)))) c.in-Queue.is run))

pub returns-in_err-ran-in-Directory-clause-run : goal.returns-in_err-ran-in-Directory-clause-run
returns-in_err-ran-in-Directory-clause-run g c = λ old written remarks taken run.
    let e : c.from_residual-in_err-ran-in-Directory.result ≡ Err c.in_err-ran-in-Directory.field-0.0 = search rules in
    subst (HasEnded (scripts c.args.options.now) old _ written _ remarks _ IsRan) (sym e)
    (HasEnded-err (scripts c.args.options.now) old _ written _ remarks _ (IsRanAs (spoken_of Directory) (script_session Directory c.args.header.version)) IsRan _ (c.in_err-ran-in-Directory.ensures.run (scripts c.args.options.now) (script_session Directory c.args.header.version) (scripts_are_about c.args.options.now Directory c.args.header.version) old written remarks taken
    (subst (λ name. HasRun (scripts c.args.options.now) old (g.I.TextIn.remaining c.args.reader.now) c.args.lines.now written (g.W.TextOut.contents c.args.writer.now) [] remarks (g.L.Listener.heard c.args.listener.now) taken (Some (script_session name c.args.header.version (opened_session (spoken_of name) c.args.options.now.history c.args.header)))) c.in-Directory.is run)))

pub returns-in_ok-ran-in-Directory-clause-run : goal.returns-in_ok-ran-in-Directory-clause-run
returns-in_ok-ran-in-Directory-clause-run g c = λ old written remarks taken run.
    HasEnded-map (scripts c.args.options.now) old _ written _ remarks _ (IsRanAs (spoken_of Directory) (script_session Directory c.args.header.version)) IsRan _ _ (λ n b is. (is.1 ∙ ap (summary_of_session n) (sym is.0), subst IsPromisedSession (sym is.0) is.2, (c.args.header.version, is.0)))
    (c.in_ok-ran-in-Directory.ensures.run (scripts c.args.options.now) (script_session Directory c.args.header.version) (scripts_are_about c.args.options.now Directory c.args.header.version) old written remarks taken
    (subst (λ name. HasRun (scripts c.args.options.now) old (g.I.TextIn.remaining c.args.reader.now) c.args.lines.now written (g.W.TextOut.contents c.args.writer.now) [] remarks (g.L.Listener.heard c.args.listener.now) taken (Some (script_session name c.args.header.version (opened_session (spoken_of name) c.args.options.now.history c.args.header)))) c.in-Directory.is run))

pub returns-in_err-ran-in-Book-clause-run : goal.returns-in_err-ran-in-Book-clause-run
returns-in_err-ran-in-Book-clause-run g c = λ old written remarks taken run.
    let e : c.from_residual-in_err-ran-in-Book.result ≡ Err c.in_err-ran-in-Book.field-0.0 = search rules in
    subst (HasEnded (scripts c.args.options.now) old _ written _ remarks _ IsRan) (sym e)
    (HasEnded-err (scripts c.args.options.now) old _ written _ remarks _ (IsRanAs (spoken_of Book) (script_session Book c.args.header.version)) IsRan _ (c.in_err-ran-in-Book.ensures.run (scripts c.args.options.now) (script_session Book c.args.header.version) (scripts_are_about c.args.options.now Book c.args.header.version) old written remarks taken
    (subst (λ name. HasRun (scripts c.args.options.now) old (g.I.TextIn.remaining c.args.reader.now) c.args.lines.now written (g.W.TextOut.contents c.args.writer.now) [] remarks (g.L.Listener.heard c.args.listener.now) taken (Some (script_session name c.args.header.version (opened_session (spoken_of name) c.args.options.now.history c.args.header)))) c.in-Book.is run)))

pub returns-in_ok-ran-in-Book-clause-run : goal.returns-in_ok-ran-in-Book-clause-run
returns-in_ok-ran-in-Book-clause-run g c = λ old written remarks taken run.
    HasEnded-map (scripts c.args.options.now) old _ written _ remarks _ (IsRanAs (spoken_of Book) (script_session Book c.args.header.version)) IsRan _ _ (λ n b is. (is.1 ∙ ap (summary_of_session n) (sym is.0), subst IsPromisedSession (sym is.0) is.2, (c.args.header.version, is.0)))
    (c.in_ok-ran-in-Book.ensures.run (scripts c.args.options.now) (script_session Book c.args.header.version) (scripts_are_about c.args.options.now Book c.args.header.version) old written remarks taken
    (subst (λ name. HasRun (scripts c.args.options.now) old (g.I.TextIn.remaining c.args.reader.now) c.args.lines.now written (g.W.TextOut.contents c.args.writer.now) [] remarks (g.L.Listener.heard c.args.listener.now) taken (Some (script_session name c.args.header.version (opened_session (spoken_of name) c.args.options.now.history c.args.header)))) c.in-Book.is run))

pub returns-in_err-ran-in-Sticky-clause-run : goal.returns-in_err-ran-in-Sticky-clause-run
returns-in_err-ran-in-Sticky-clause-run g c = λ old written remarks taken run.
    let e : c.from_residual-in_err-ran-in-Sticky.result ≡ Err c.in_err-ran-in-Sticky.field-0.0 = search rules in
    subst (HasEnded (scripts c.args.options.now) old _ written _ remarks _ IsRan) (sym e)
    (HasEnded-err (scripts c.args.options.now) old _ written _ remarks _ (IsRanAs (spoken_of Sticky) (script_session Sticky c.args.header.version)) IsRan _ (c.in_err-ran-in-Sticky.ensures.run (scripts c.args.options.now) (script_session Sticky c.args.header.version) (scripts_are_about c.args.options.now Sticky c.args.header.version) old written remarks taken
    (subst (λ name. HasRun (scripts c.args.options.now) old (g.I.TextIn.remaining c.args.reader.now) c.args.lines.now written (g.W.TextOut.contents c.args.writer.now) [] remarks (g.L.Listener.heard c.args.listener.now) taken (Some (script_session name c.args.header.version (opened_session (spoken_of name) c.args.options.now.history c.args.header)))) c.in-Sticky.is run)))

pub returns-in_ok-ran-in-Sticky-clause-run : goal.returns-in_ok-ran-in-Sticky-clause-run
returns-in_ok-ran-in-Sticky-clause-run g c = λ old written remarks taken run.
    HasEnded-map (scripts c.args.options.now) old _ written _ remarks _ (IsRanAs (spoken_of Sticky) (script_session Sticky c.args.header.version)) IsRan _ _ (λ n b is. (is.1 ∙ ap (summary_of_session n) (sym is.0), subst IsPromisedSession (sym is.0) is.2, (c.args.header.version, is.0)))
    (c.in_ok-ran-in-Sticky.ensures.run (scripts c.args.options.now) (script_session Sticky c.args.header.version) (scripts_are_about c.args.options.now Sticky c.args.header.version) old written remarks taken
    (subst (λ name. HasRun (scripts c.args.options.now) old (g.I.TextIn.remaining c.args.reader.now) c.args.lines.now written (g.W.TextOut.contents c.args.writer.now) [] remarks (g.L.Listener.heard c.args.listener.now) taken (Some (script_session name c.args.header.version (opened_session (spoken_of name) c.args.options.now.history c.args.header)))) c.in-Sticky.is run))
