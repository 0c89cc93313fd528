use Rattle.uni_script.proofs.Vocabulary.{End, Err, HasEnded, HasTaken, HeardGrows, IfErr, Memory, NoHeader, None, Some, TakesOn, [], ap, append-nil, echo_of, inl, is_none, outcome_of_fault, refl, rules, subst, sym, ◌++◌, ◌+◌, ◌∙◌, ◌∷◌, ◌≡◌}
use Rattle.uni_script.proofs.Written.{AppendsPrefix-all}
use Rattle.uni_script.proofs.Running.{is_short}
use Rattle.uni_script.proofs.RunningOn.{stays_false, HeardGrows-nil, is_short-line, of_some, of_none, text_written, text_part, ReadsOn-taken, HasRun-start, HasRun-quiet, HasRun-moved, ReadsOn-before, FaultsAfter-header, FaultsAfter-stop, FaultsAfter-take, HasEnded-early, HasEnded-fault}
use Rattle.uni_script.proofs.Remarked.{heard_of_line-note, heard_of_line-header}
use Rattle.uni_script.proofs.driver.take_header.Goals as goal

pub loop-lines-init : goal.loop-lines-init
loop-lines-init g c = (c.requires.held, c.requires.reader, c.requires.writer, ([], HasRun-start (g.C.Catalogue.kind c.args.catalogue.now c.args.options.now) _ _ _ c.args.lines.now (c.requires.fresh _)))

pub loop-lines-preserved : goal.loop-lines-preserved
loop-lines-preserved g c =
    let took = subst (TakesOn (g.I.TextIn.remaining c.loop-lines.reader) (g.I.TextIn.remaining c.take.new.reader) c.loop-lines.lines c.take.new.self) c.in-Line.is c.in_ok-take.ensures.line in
    let old = g.I.TextIn.remaining c.args.reader.now in
    let now = c.loop-lines.invariant.3 in
    let line = c.line-line.result.now in
    let has = subst (λ l. HasTaken old (g.I.TextIn.remaining c.take.new.reader) c.take.new.self (now.0 ++ l ∷ [])) (sym c.line-line.ensures) (took.1 old now.0 now.1.reading) in
    let held = c.in_ok-take.ensures.held in
    let short = ap (λ l. is_short l) c.line-line.ensures ∙ is_short-line c.take.new.self held in
    let echo = echo_of c.args.options.now.echo line in
    let note = c.in_ok-header.ensures.kind ∙ ap is_none c.in-None.is in
    let same = ap (λ e. echo_of e line) (g.C.Catalogue.echoes c.args.catalogue.now c.args.options.now) in
    let run = HasRun-quiet (g.C.Catalogue.kind c.args.catalogue.now c.args.options.now) old _ c.loop-lines.lines _ _ [] _ _ now.0 None now.1 _ c.take.new.self line has short held.bounds.count None echo _ (of_none c.in_ok-header.header _ c.in-None.is (c.in_ok-header.ensures.note c.args.options.now)) (sym same)
    (subst (HeardGrows (g.L.Listener.heard c.loop-lines.listener) (g.L.Listener.heard c.note.new.self)) (heard_of_line-note (g.C.Catalogue.kind c.args.catalogue.now c.args.options.now) c.take.new.self.count line note) c.in_ok-note-in-None.ensures) in (
      held,
      stays_false _ _ c.in_ok-take.ensures.failed (λ e. cc),
      stays_false _ _ c.in_ok-write_echo-in-None.ensures.writer (λ e. cc),
      (now.0 ++ line ∷ [], HasRun-moved (g.C.Catalogue.kind c.args.catalogue.now c.args.options.now) old _ c.take.new.self _ _ echo _ _ (now.0 ++ line ∷ []) None run _ [] (echo, c.in_ok-write_echo-in-None.ensures.written, sym (append-nil echo))),
    )

pub returns-in_err-take-clause-ended : goal.returns-in_err-take-clause-ended
returns-in_err-take-clause-ended g c =
    let old = g.I.TextIn.remaining c.args.reader.now in
    let now = c.loop-lines.invariant.3 in
    let stops = c.in_err-take.ensures.fault in
    let fault = c.in_err-take.field-0.0 in
    let e : c.from_residual.result ≡ Err fault = search rules in
    subst (λ r. IfErr r (λ e. HasEnded (g.C.Catalogue.kind c.args.catalogue.now c.args.options.now) old (g.I.TextIn.remaining c.take.new.reader) (g.W.TextOut.contents c.args.writer.now) (g.W.TextOut.contents c.loop-lines.writer) (g.L.Listener.heard c.args.listener.now) (g.L.Listener.heard c.loop-lines.listener) (g.C.Catalogue.IsRan c.args.catalogue.now) (Err e))) (sym e)
    (HasEnded-fault (g.C.Catalogue.kind c.args.catalogue.now c.args.options.now) old _ _ _ _ _ now.0 (g.C.Catalogue.IsRan c.args.catalogue.now) fault (FaultsAfter-take (g.C.Catalogue.kind c.args.catalogue.now c.args.options.now) old _ c.loop-lines.lines _ _ [] _ _ now.0 None now.1 _ stops.0 (stops.2 old now.0 now.1.reading) fault stops.1) (text_written (g.C.Catalogue.kind c.args.catalogue.now c.args.options.now) old _ c.loop-lines.lines _ _ [] _ _ now.0 None now.1 refl))

pub returns-in-End-clause-ended : goal.returns-in-End-clause-ended
returns-in-End-clause-ended g c =
    let old = g.I.TextIn.remaining c.args.reader.now in
    let now = c.loop-lines.invariant.3 in
    let ended = subst (TakesOn (g.I.TextIn.remaining c.loop-lines.reader) (g.I.TextIn.remaining c.take.new.reader) c.loop-lines.lines c.take.new.self) c.in-End.is c.in_ok-take.ensures.line in
    let fault = NoHeader (c.take.new.self.count + 1) in
    HasEnded-fault (g.C.Catalogue.kind c.args.catalogue.now c.args.options.now) old _ _ _ _ _ now.0 (g.C.Catalogue.IsRan c.args.catalogue.now) fault
    (FaultsAfter-stop (g.C.Catalogue.kind c.args.catalogue.now c.args.options.now) old _ c.loop-lines.lines _ _ [] _ _ now.0 None now.1 _ End (ended.1 old now.0 now.1.reading) fault (ap (λ n. outcome_of_fault None (NoHeader (n + 1))) (now.1.reading.count ∙ sym ended.0))) (text_written (g.C.Catalogue.kind c.args.catalogue.now c.args.options.now) old _ c.loop-lines.lines _ _ [] _ _ now.0 None now.1 refl)

pub returns-in_err-header-clause-ended : goal.returns-in_err-header-clause-ended
returns-in_err-header-clause-ended g c =
    let took = subst (TakesOn (g.I.TextIn.remaining c.loop-lines.reader) (g.I.TextIn.remaining c.take.new.reader) c.loop-lines.lines c.take.new.self) c.in-Line.is c.in_ok-take.ensures.line in
    let old = g.I.TextIn.remaining c.args.reader.now in
    let now = c.loop-lines.invariant.3 in
    let line = c.line-line.result.now in
    let has = subst (λ l. HasTaken old (g.I.TextIn.remaining c.take.new.reader) c.take.new.self (now.0 ++ l ∷ [])) (sym c.line-line.ensures) (took.1 old now.0 now.1.reading) in
    let held = c.in_ok-take.ensures.held in
    let short = ap (λ l. is_short l) c.line-line.ensures ∙ is_short-line c.take.new.self held in
    let fault = c.in_err-header.field-0.0 in
    let e : c.from_residual-in_err-header.result ≡ Err fault = search rules in
    subst (λ r. IfErr r (λ e. HasEnded (g.C.Catalogue.kind c.args.catalogue.now c.args.options.now) old (g.I.TextIn.remaining c.take.new.reader) (g.W.TextOut.contents c.args.writer.now) (g.W.TextOut.contents c.loop-lines.writer) (g.L.Listener.heard c.args.listener.now) (g.L.Listener.heard c.loop-lines.listener) (g.C.Catalogue.IsRan c.args.catalogue.now) (Err e))) (sym e)
    (HasEnded-fault (g.C.Catalogue.kind c.args.catalogue.now c.args.options.now) old _ _ _ _ _ now.0 (g.C.Catalogue.IsRan c.args.catalogue.now) fault (FaultsAfter-header (g.C.Catalogue.kind c.args.catalogue.now c.args.options.now) old _ c.loop-lines.lines _ _ [] _ _ now.0 None now.1 _ c.take.new.self line has short held.bounds.count None fault (c.in_err-header.ensures.fault c.args.options.now)) (text_written (g.C.Catalogue.kind c.args.catalogue.now c.args.options.now) old _ c.loop-lines.lines _ _ [] _ _ now.0 None now.1 refl))

pub returns-in-Some-clause-run : goal.returns-in-Some-clause-run
returns-in-Some-clause-run g c =
    let took = subst (TakesOn (g.I.TextIn.remaining c.loop-lines.reader) (g.I.TextIn.remaining c.take.new.reader) c.loop-lines.lines c.take.new.self) c.in-Line.is c.in_ok-take.ensures.line in
    let old = g.I.TextIn.remaining c.args.reader.now in
    let now = c.loop-lines.invariant.3 in
    let line = c.line-line.result.now in
    let has = subst (λ l. HasTaken old (g.I.TextIn.remaining c.take.new.reader) c.take.new.self (now.0 ++ l ∷ [])) (sym c.line-line.ensures) (took.1 old now.0 now.1.reading) in
    let held = c.in_ok-take.ensures.held in
    let short = ap (λ l. is_short l) c.line-line.ensures ∙ is_short-line c.take.new.self held in
    let echo = echo_of c.args.options.now.echo line in
    let other = c.in_ok-header.ensures.kind ∙ ap is_none c.in-Some.is in
    let same = ap (λ e. echo_of e line) (g.C.Catalogue.echoes c.args.catalogue.now c.args.options.now) in
    let opened = Some (g.C.Catalogue.opened c.args.catalogue.now c.args.options.now c.in-Some.header) in
    let run = HasRun-quiet (g.C.Catalogue.kind c.args.catalogue.now c.args.options.now) old _ c.loop-lines.lines _ _ [] _ _ now.0 None now.1 _ c.take.new.self line has short held.bounds.count opened echo _ (of_some c.in_ok-header.header c.in-Some.header _ c.in-Some.is (c.in_ok-header.ensures.header c.args.options.now)) (sym same)
    (subst (HeardGrows (g.L.Listener.heard c.loop-lines.listener) (g.L.Listener.heard c.loop-lines.listener)) (heard_of_line-header (g.C.Catalogue.kind c.args.catalogue.now c.args.options.now) c.take.new.self.count opened line other) (HeardGrows-nil (g.L.Listener.heard c.loop-lines.listener))) in
    (now.0 ++ line ∷ [], HasRun-moved (g.C.Catalogue.kind c.args.catalogue.now c.args.options.now) old _ c.take.new.self _ _ echo _ _ (now.0 ++ line ∷ []) opened run _ [] (echo, c.in_ok-write_echo-in-Some.ensures.written, sym (append-nil echo)))

pub returns-in_err-write_echo-in-Some-clause-ended : goal.returns-in_err-write_echo-in-Some-clause-ended
returns-in_err-write_echo-in-Some-clause-ended g c =
    let took = subst (TakesOn (g.I.TextIn.remaining c.loop-lines.reader) (g.I.TextIn.remaining c.take.new.reader) c.loop-lines.lines c.take.new.self) c.in-Line.is c.in_ok-take.ensures.line in
    let old = g.I.TextIn.remaining c.args.reader.now in
    let now = c.loop-lines.invariant.3 in
    let line = c.line-line.result.now in
    let has = subst (λ l. HasTaken old (g.I.TextIn.remaining c.take.new.reader) c.take.new.self (now.0 ++ l ∷ [])) (sym c.line-line.ensures) (took.1 old now.0 now.1.reading) in
    let held = c.in_ok-take.ensures.held in
    let short = ap (λ l. is_short l) c.line-line.ensures ∙ is_short-line c.take.new.self held in
    let echo = echo_of c.args.options.now.echo line in
    let fault = c.in_err-write_echo-in-Some.field-0.0 in
    let e : c.from_residual-in_err-write_echo-in-Some.result ≡ Err fault = search rules in
    let other = c.in_ok-header.ensures.kind ∙ ap is_none c.in-Some.is in
    let same = ap (λ e. echo_of e line) (g.C.Catalogue.echoes c.args.catalogue.now c.args.options.now) in
    let opened = Some (g.C.Catalogue.opened c.args.catalogue.now c.args.options.now c.in-Some.header) in
    let run = HasRun-quiet (g.C.Catalogue.kind c.args.catalogue.now c.args.options.now) old _ c.loop-lines.lines _ _ [] _ _ now.0 None now.1 _ c.take.new.self line has short held.bounds.count opened echo _ (of_some c.in_ok-header.header c.in-Some.header _ c.in-Some.is (c.in_ok-header.ensures.header c.args.options.now)) (sym same)
    (subst (HeardGrows (g.L.Listener.heard c.loop-lines.listener) (g.L.Listener.heard c.loop-lines.listener)) (heard_of_line-header (g.C.Catalogue.kind c.args.catalogue.now c.args.options.now) c.take.new.self.count opened line other) (HeardGrows-nil (g.L.Listener.heard c.loop-lines.listener))) in
    subst (λ r. IfErr r (λ e. HasEnded (g.C.Catalogue.kind c.args.catalogue.now c.args.options.now) old (g.I.TextIn.remaining c.take.new.reader) (g.W.TextOut.contents c.args.writer.now) (g.W.TextOut.contents c.write_echo.new.writer) (g.L.Listener.heard c.args.listener.now) (g.L.Listener.heard c.loop-lines.listener) (g.C.Catalogue.IsRan c.args.catalogue.now) (Err e))) (sym e)
    (HasEnded-early (g.C.Catalogue.kind c.args.catalogue.now c.args.options.now) old _ _ _ _ _ (now.0 ++ line ∷ []) (g.C.Catalogue.IsRan c.args.catalogue.now) fault c.in_err-write_echo-in-Some.ensures.fault (ReadsOn-taken old _ c.take.new.self (now.0 ++ line ∷ []) run.reading) (text_part (g.C.Catalogue.kind c.args.catalogue.now c.args.options.now) old _ c.take.new.self _ _ echo _ _ (now.0 ++ line ∷ []) opened run _ c.in_err-write_echo-in-Some.ensures.prefix))

pub returns-in_err-write_echo-in-None-clause-ended : goal.returns-in_err-write_echo-in-None-clause-ended
returns-in_err-write_echo-in-None-clause-ended g c =
    let took = subst (TakesOn (g.I.TextIn.remaining c.loop-lines.reader) (g.I.TextIn.remaining c.take.new.reader) c.loop-lines.lines c.take.new.self) c.in-Line.is c.in_ok-take.ensures.line in
    let old = g.I.TextIn.remaining c.args.reader.now in
    let now = c.loop-lines.invariant.3 in
    let line = c.line-line.result.now in
    let has = subst (λ l. HasTaken old (g.I.TextIn.remaining c.take.new.reader) c.take.new.self (now.0 ++ l ∷ [])) (sym c.line-line.ensures) (took.1 old now.0 now.1.reading) in
    let held = c.in_ok-take.ensures.held in
    let short = ap (λ l. is_short l) c.line-line.ensures ∙ is_short-line c.take.new.self held in
    let echo = echo_of c.args.options.now.echo line in
    let fault = c.in_err-write_echo-in-None.field-0.0 in
    let e : c.from_residual-in_err-write_echo-in-None.result ≡ Err fault = search rules in
    let note = c.in_ok-header.ensures.kind ∙ ap is_none c.in-None.is in
    let same = ap (λ e. echo_of e line) (g.C.Catalogue.echoes c.args.catalogue.now c.args.options.now) in
    let run = HasRun-quiet (g.C.Catalogue.kind c.args.catalogue.now c.args.options.now) old _ c.loop-lines.lines _ _ [] _ _ now.0 None now.1 _ c.take.new.self line has short held.bounds.count None echo _ (of_none c.in_ok-header.header _ c.in-None.is (c.in_ok-header.ensures.note c.args.options.now)) (sym same)
    (subst (HeardGrows (g.L.Listener.heard c.loop-lines.listener) (g.L.Listener.heard c.note.new.self)) (heard_of_line-note (g.C.Catalogue.kind c.args.catalogue.now c.args.options.now) c.take.new.self.count line note) c.in_ok-note-in-None.ensures) in
    subst (λ r. IfErr r (λ e. HasEnded (g.C.Catalogue.kind c.args.catalogue.now c.args.options.now) old (g.I.TextIn.remaining c.take.new.reader) (g.W.TextOut.contents c.args.writer.now) (g.W.TextOut.contents c.write_echo-in-None.new.writer) (g.L.Listener.heard c.args.listener.now) (g.L.Listener.heard c.note.new.self) (g.C.Catalogue.IsRan c.args.catalogue.now) (Err e))) (sym e)
    (HasEnded-early (g.C.Catalogue.kind c.args.catalogue.now c.args.options.now) old _ _ _ _ _ (now.0 ++ line ∷ []) (g.C.Catalogue.IsRan c.args.catalogue.now) fault c.in_err-write_echo-in-None.ensures.fault (ReadsOn-taken old _ c.take.new.self (now.0 ++ line ∷ []) run.reading) (text_part (g.C.Catalogue.kind c.args.catalogue.now c.args.options.now) old _ c.take.new.self _ _ echo _ _ (now.0 ++ line ∷ []) None run _ c.in_err-write_echo-in-None.ensures.prefix))

pub returns-in_err-note-in-None-clause-ended : goal.returns-in_err-note-in-None-clause-ended
returns-in_err-note-in-None-clause-ended g c =
    let took = subst (TakesOn (g.I.TextIn.remaining c.loop-lines.reader) (g.I.TextIn.remaining c.take.new.reader) c.loop-lines.lines c.take.new.self) c.in-Line.is c.in_ok-take.ensures.line in
    let old = g.I.TextIn.remaining c.args.reader.now in
    let now = c.loop-lines.invariant.3 in
    let line = c.line-line.result.now in
    let has = subst (λ l. HasTaken old (g.I.TextIn.remaining c.take.new.reader) c.take.new.self (now.0 ++ l ∷ [])) (sym c.line-line.ensures) (took.1 old now.0 now.1.reading) in
    let held = c.in_ok-take.ensures.held in
    let short = ap (λ l. is_short l) c.line-line.ensures ∙ is_short-line c.take.new.self held in
    let e : c.from_residual-in_err-note-in-None.result ≡ Err Memory = search rules in
    subst (λ r. IfErr r (λ e. HasEnded (g.C.Catalogue.kind c.args.catalogue.now c.args.options.now) old (g.I.TextIn.remaining c.take.new.reader) (g.W.TextOut.contents c.args.writer.now) (g.W.TextOut.contents c.loop-lines.writer) (g.L.Listener.heard c.args.listener.now) (g.L.Listener.heard c.note.new.self) (g.C.Catalogue.IsRan c.args.catalogue.now) (Err e))) (sym e)
    (HasEnded-early (g.C.Catalogue.kind c.args.catalogue.now c.args.options.now) old _ _ _ _ _ now.0 (g.C.Catalogue.IsRan c.args.catalogue.now) Memory (inl refl) (ReadsOn-before (g.C.Catalogue.kind c.args.catalogue.now c.args.options.now) old _ c.loop-lines.lines _ _ [] _ _ now.0 None now.1 _ c.take.new.self line has short held.bounds.count) (AppendsPrefix-all _ _ _ (text_written (g.C.Catalogue.kind c.args.catalogue.now c.args.options.now) old _ c.loop-lines.lines _ _ [] _ _ now.0 None now.1 refl)))
