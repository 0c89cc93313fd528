use Rattle.uni_script.proofs.Vocabulary.{Err, HasEnded, HasRun, IsAbout, IsRanAs, IsSummaryOf, Memory, Some, [], inl, refl, rules, session_of, spoken, subst, sym, ◌≡◌}
use Rattle.uni_script.specs.declared.options.Dialect.{Dialect}
use Rattle.uni_script.proofs.RunningOn.{ReadsOn-taken, text_written, HasEnded-early, HasEnded-map, HasEnded-err}
use Rattle.uni_script.proofs.Written.{AppendsPrefix-all}
use Rattle.uni_script.proofs.driver.run_object.Goals as goal

pub returns-in_err-session-clause-run : goal.returns-in_err-session-clause-run
returns-in_err-session-clause-run g c = λ kind inside about old written remarks taken run.
    let e : c.from_residual.result ≡ Err Memory = search rules in
    let made = IsRanAs (spoken g.O.SeqObject.sequential g.O.Spoken.language c.args.object) inside in
    subst (HasEnded kind old (g.I.TextIn.remaining c.args.reader.now) written (g.W.TextOut.contents c.args.writer.now) remarks (g.L.Listener.heard c.args.listener.now) made) (sym e)
    (HasEnded-early kind old _ written _ remarks _ taken made Memory (inl refl) (ReadsOn-taken old _ c.args.lines.now taken run.reading) (AppendsPrefix-all _ _ _ (text_written kind old _ c.args.lines.now written _ [] remarks _ taken _ run refl)))

pub returns-in-Ok-clause-run : goal.returns-in-Ok-clause-run
returns-in-Ok-clause-run g c = λ kind inside about old written remarks taken run.
    let object = c.in_ok-session.ensures.object in
    let dialect : Dialect = record { version = c.args.header.version; echo = c.args.options.now.echo } in
    HasEnded-map kind old _ written _ remarks _ (IsSummaryOf (spoken g.O.SeqObject.sequential g.O.Spoken.language c.in_ok-session.session.world.object) inside (session_of c.run_commands.new.session)) (IsRanAs (spoken g.O.SeqObject.sequential g.O.Spoken.language c.args.object) inside) _ _
    (λ n b is. subst (λ o. IsSummaryOf (spoken g.O.SeqObject.sequential g.O.Spoken.language o) inside (session_of c.run_commands.new.session) n b c.in-Ok.summary) object is)
    (c.in-Ok.ensures.run kind inside (subst (λ o. IsAbout kind (spoken g.O.SeqObject.sequential g.O.Spoken.language o) dialect inside) (sym object) about) old written remarks taken
    (subst (λ b. HasRun kind old (g.I.TextIn.remaining c.args.reader.now) c.args.lines.now written (g.W.TextOut.contents c.args.writer.now) [] remarks (g.L.Listener.heard c.args.listener.now) taken (Some (inside b))) (sym c.in_ok-session.ensures.session) run))

pub returns-in-Err-clause-run : goal.returns-in-Err-clause-run
returns-in-Err-clause-run g c = λ kind inside about old written remarks taken run.
    let object = c.in_ok-session.ensures.object in
    let dialect : Dialect = record { version = c.args.header.version; echo = c.args.options.now.echo } in
    HasEnded-err kind old _ written _ remarks _ (IsSummaryOf (spoken g.O.SeqObject.sequential g.O.Spoken.language c.in_ok-session.session.world.object) inside (session_of c.run_commands.new.session)) (IsRanAs (spoken g.O.SeqObject.sequential g.O.Spoken.language c.args.object) inside) _
    (c.in-Err.ensures.run kind inside (subst (λ o. IsAbout kind (spoken g.O.SeqObject.sequential g.O.Spoken.language o) dialect inside) (sym object) about) old written remarks taken
    (subst (λ b. HasRun kind old (g.I.TextIn.remaining c.args.reader.now) c.args.lines.now written (g.W.TextOut.contents c.args.writer.now) [] remarks (g.L.Listener.heard c.args.listener.now) taken (Some (inside b))) (sym c.in_ok-session.ensures.session) run))
