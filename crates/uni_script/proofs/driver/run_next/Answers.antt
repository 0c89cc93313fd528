use Rattle.uni_script.proofs.Vocabulary.{Err, GoesOn, HasTaken, Memory, Some, TakesOn, [], ap, echo_of, inl, outcome_of_short_line, refl, rules, session_of, subst, sym, ◌++◌, ◌∙◌, ◌∷◌, ◌≡◌}
use Rattle.uni_script.proofs.Running.{is_short}
use Rattle.uni_script.proofs.RunningOn.{is_short-line, HasRun-line, ReadsOn-before, FaultsAfter-line, FaultsAfter-take}
use Rattle.uni_script.proofs.driver.run_next.Goals as goal

pub returns-in_err-take-clause-next : goal.returns-in_err-take-clause-next
returns-in_err-take-clause-next g c = λ kind inside about old written_old written heard_old taken run.
    let stops = c.in_err-take.ensures.fault in
    let fault = c.in_err-take.field-0.0 in
    let e : c.from_residual.result ≡ Err fault = search rules in
    subst (GoesOn kind old (g.I.TextIn.remaining c.take.new.reader) c.args.lines.now c.take.new.self written_old written c.args.text.now.items c.args.text.now.items heard_old (g.L.Listener.heard c.args.listener.now) (g.L.Listener.heard c.args.listener.now) taken (inside (session_of c.args.session.now)) (inside (session_of c.args.session.now))) (sym e)
    (refl, FaultsAfter-take kind old _ c.args.lines.now written_old written _ heard_old _ taken _ run _ stops.0 (stops.2 old taken run.reading) fault stops.1)

pub returns-in_err-run_line-in-Line-clause-next : goal.returns-in_err-run_line-in-Line-clause-next
returns-in_err-run_line-in-Line-clause-next g c = λ kind inside about old written_old written heard_old taken run.
    let fault = c.in_err-run_line-in-Line.field-0.0 in
    let e : c.from_residual-in_err-run_line-in-Line.result ≡ Err fault = search rules in
    let took = subst (TakesOn (g.I.TextIn.remaining c.args.reader.now) (g.I.TextIn.remaining c.take.new.reader) c.args.lines.now c.take.new.self) c.in-Line.is c.in_ok-take.ensures.line in
    let has = subst (λ l. HasTaken old (g.I.TextIn.remaining c.take.new.reader) c.take.new.self (taken ++ l ∷ [])) (sym c.line-line.ensures) (took.1 old taken run.reading) in
    let held = c.in_ok-take.ensures.held in
    let short = ap (λ l. is_short l) c.line-line.ensures ∙ is_short-line c.take.new.self held in
    subst (GoesOn kind old (g.I.TextIn.remaining c.take.new.reader) c.args.lines.now c.take.new.self written_old written c.args.text.now.items c.args.text.now.items heard_old (g.L.Listener.heard c.args.listener.now) (g.L.Listener.heard c.run_line.new.listener) taken (inside (session_of c.args.session.now)) (inside (session_of c.run_line.new.session))) (sym e)
    (refl, FaultsAfter-line kind old _ c.args.lines.now written_old written _ heard_old _ taken _ run _ c.take.new.self c.line-line.result.now has short held.bounds.count fault _ _ (c.in_err-run_line-in-Line.ensures.outcome kind inside about))

pub returns-in_err-extend_from_slice-in-Line-clause-next : goal.returns-in_err-extend_from_slice-in-Line-clause-next
returns-in_err-extend_from_slice-in-Line-clause-next g c = λ kind inside about old written_old written heard_old taken run.
    let e : c.from_residual-in_err-extend_from_slice-in-Line.result ≡ Err Memory = search rules in
    let took = subst (TakesOn (g.I.TextIn.remaining c.args.reader.now) (g.I.TextIn.remaining c.take.new.reader) c.args.lines.now c.take.new.self) c.in-Line.is c.in_ok-take.ensures.line in
    let has = subst (λ l. HasTaken old (g.I.TextIn.remaining c.take.new.reader) c.take.new.self (taken ++ l ∷ [])) (sym c.line-line.ensures) (took.1 old taken run.reading) in
    let held = c.in_ok-take.ensures.held in
    let short = ap (λ l. is_short l) c.line-line.ensures ∙ is_short-line c.take.new.self held in
    subst (GoesOn kind old (g.I.TextIn.remaining c.take.new.reader) c.args.lines.now c.take.new.self written_old written c.args.text.now.items c.extend_from_slice.new.self.items heard_old (g.L.Listener.heard c.args.listener.now) (g.L.Listener.heard c.run_line.new.listener) taken (inside (session_of c.args.session.now)) (inside (session_of c.run_line.new.session))) (sym e)
    (c.in_err-extend_from_slice-in-Line.ensures.items, inl (refl, ReadsOn-before kind old _ c.args.lines.now written_old written _ heard_old _ taken _ run _ c.take.new.self c.line-line.result.now has short held.bounds.count))

pub returns-in_ok-extend_from_slice-in-Line-clause-next : goal.returns-in_ok-extend_from_slice-in-Line-clause-next
returns-in_ok-extend_from_slice-in-Line-clause-next g c = λ kind inside about old written_old written heard_old taken run.
    let took = subst (TakesOn (g.I.TextIn.remaining c.args.reader.now) (g.I.TextIn.remaining c.take.new.reader) c.args.lines.now c.take.new.self) c.in-Line.is c.in_ok-take.ensures.line in
    let has = subst (λ l. HasTaken old (g.I.TextIn.remaining c.take.new.reader) c.take.new.self (taken ++ l ∷ [])) (sym c.line-line.ensures) (took.1 old taken run.reading) in
    let held = c.in_ok-take.ensures.held in
    let short = ap (λ l. is_short l) c.line-line.ensures ∙ is_short-line c.take.new.self held in
    let b = Some (inside (session_of c.args.session.now)) in
    let line = c.line-line.result.now in
    let text = (outcome_of_short_line kind c.take.new.self.count b line).text in
    let ran = c.in_ok-run_line-in-Line.ensures.outcome kind inside about in
    let echo : c.push_echo.new.text.items ≡ echo_of kind.echo line = c.in_ok-push_echo-in-Line.ensures ∙ ap (λ t. t ++ echo_of c.args.dialect.echo line) c.clear.ensures.items ∙ ap (λ e. echo_of e line) (sym about.echo) in
    let answered : c.as_slice.result.now ≡ echo_of kind.echo line ++ text = c.as_slice.ensures.value ∙ ran.1 ∙ ap (λ t. t ++ text) echo in (
      taken ++ line ∷ [],
      HasRun-line kind old _ c.args.lines.now written_old written _ heard_old _ taken _ run _ c.take.new.self line has short held.bounds.count (Some (inside (session_of c.run_line.new.session))) _ _ ran.0 (sym (c.in_ok-run_line-in-Line.ensures.session kind inside about))
          (c.in_ok-extend_from_slice-in-Line.ensures.items ∙ ap (λ t. c.args.text.now.items ++ t) answered) (c.in_ok-run_line-in-Line.ensures.heard kind inside about),
    )

pub returns-in-End-clause-next : goal.returns-in-End-clause-next
returns-in-End-clause-next g c = λ kind inside about old written_old written heard_old taken run.
    let ended = subst (TakesOn (g.I.TextIn.remaining c.args.reader.now) (g.I.TextIn.remaining c.take.new.reader) c.args.lines.now c.take.new.self) c.in-End.is c.in_ok-take.ensures.line in
    (ended.1 old taken run.reading, refl, refl, refl, ended.0)

pub returns-in_err-push_echo-in-Line-clause-next : goal.returns-in_err-push_echo-in-Line-clause-next
returns-in_err-push_echo-in-Line-clause-next g c = λ kind inside about old written_old written heard_old taken run.
    let e : c.from_residual-in_err-push_echo-in-Line.result ≡ Err Memory = search rules in
    let took = subst (TakesOn (g.I.TextIn.remaining c.args.reader.now) (g.I.TextIn.remaining c.take.new.reader) c.args.lines.now c.take.new.self) c.in-Line.is c.in_ok-take.ensures.line in
    let has = subst (λ l. HasTaken old (g.I.TextIn.remaining c.take.new.reader) c.take.new.self (taken ++ l ∷ [])) (sym c.line-line.ensures) (took.1 old taken run.reading) in
    let held = c.in_ok-take.ensures.held in
    let short = ap (λ l. is_short l) c.line-line.ensures ∙ is_short-line c.take.new.self held in
    subst (GoesOn kind old (g.I.TextIn.remaining c.take.new.reader) c.args.lines.now c.take.new.self written_old written c.args.text.now.items c.args.text.now.items heard_old (g.L.Listener.heard c.args.listener.now) (g.L.Listener.heard c.args.listener.now) taken (inside (session_of c.args.session.now)) (inside (session_of c.args.session.now))) (sym e)
    (refl, inl (refl, ReadsOn-before kind old _ c.args.lines.now written_old written _ heard_old _ taken _ run _ c.take.new.self c.line-line.result.now has short held.bounds.count))
