use Rattle.uni_script.proofs.Vocabulary.{AppendsPrefix, End, Err, GoesOn, HasEnded, HasRun, IsAbout, IsPromised, IsSummaryOf, Moves, Ok, Some, Write, WritesAs, ap, inr, outcome_of_end, refl, rules, session_of, spoken, subst, summary_of, sym, ◌∙◌, ◌≡◌}
use Rattle.uni_script.proofs.RunningOn.{stays_false, IfOk-with, text_written, text_part, ReadsOn-taken, ReadsOn-stopped, HasRun-moved, HasEnded-early, HasEnded-fault, HasEnded-unwritten, HasEnded-end}
use Rattle.uni_script.proofs.driver.run_commands.Goals as goal

pub loop-answer-preserved : goal.loop-answer-preserved
loop-answer-preserved g c = (
  c.in-Ok-Line.ensures.held,
  c.in-Ok-Line.ensures.reader_ok,
  stays_false _ _ c.in_ok-make_room.ensures.writer (λ e. cc),
  c.in-Ok-Line.ensures.object ∙ c.loop-answer.invariant.3,
  λ kind inside about old written remarks taken run.
      let now = c.loop-answer.invariant.4 kind inside about old written remarks taken run in
      let moved = HasRun-moved kind old _ c.loop-answer.lines written _ _ remarks _ now.0 _ now.1 _ _ c.in_ok-make_room.ensures.moved in
      subst (λ t. GoesOn kind old (g.I.TextIn.remaining c.run_next.new.reader) c.loop-answer.lines c.run_next.new.lines written (g.W.TextOut.contents c.make_room.new.writer) c.make_room.new.text.items c.run_next.new.text.items remarks (g.L.Listener.heard c.loop-answer.listener) (g.L.Listener.heard c.run_next.new.listener) now.0 (inside (session_of c.loop-answer.session)) (inside (session_of c.run_next.new.session)) (Ok t)) c.in-Ok-Line.field-0-is (c.in-Ok-Line.ensures.next kind inside (subst (λ o. IsAbout kind (spoken g.O.SeqObject.sequential g.O.Spoken.language o) c.args.dialect inside) (sym c.loop-answer.invariant.3) about) old written _ remarks now.0 moved),
)

pub returns-in_err-make_room-clause-run : goal.returns-in_err-make_room-clause-run
returns-in_err-make_room-clause-run g c = λ kind inside about old written remarks taken run.
    let now = c.loop-answer.invariant.4 kind inside about old written remarks taken run in
    let made = IsSummaryOf (spoken g.O.SeqObject.sequential g.O.Spoken.language c.args.session.now.world.object) inside (session_of c.loop-answer.session) in
    let e : c.from_residual.result ≡ Err Write = search rules in
    subst (HasEnded kind old (g.I.TextIn.remaining c.loop-answer.reader) written (g.W.TextOut.contents c.make_room.new.writer) remarks (g.L.Listener.heard c.loop-answer.listener) made) (sym e)
    (HasEnded-early kind old _ written _ remarks _ now.0 made Write (inr refl) (ReadsOn-taken old _ c.loop-answer.lines now.0 now.1.reading) (text_part kind old _ c.loop-answer.lines written _ _ remarks _ now.0 _ now.1 _ c.in_err-make_room.ensures.prefix))

pub returns-in_err-write_text-in-Ok-End-clause-run : goal.returns-in_err-write_text-in-Ok-End-clause-run
returns-in_err-write_text-in-Ok-End-clause-run g c =
    let e0 : c.from_residual-in_err-write_text-in-Ok-End.result ≡ Err c.in_err-write_text-in-Ok-End.field-0.0 = search rules in λ kind inside about old written remarks taken run.
    let now = c.loop-answer.invariant.4 kind inside about old written remarks taken run in
    let moved = HasRun-moved kind old _ c.loop-answer.lines written _ _ remarks _ now.0 _ now.1 _ _ c.in_ok-make_room.ensures.moved in
    let ended = subst (λ t. GoesOn kind old (g.I.TextIn.remaining c.run_next.new.reader) c.loop-answer.lines c.run_next.new.lines written (g.W.TextOut.contents c.make_room.new.writer) c.make_room.new.text.items c.run_next.new.text.items remarks (g.L.Listener.heard c.loop-answer.listener) (g.L.Listener.heard c.run_next.new.listener) now.0 (inside (session_of c.loop-answer.session)) (inside (session_of c.run_next.new.session)) (Ok t)) c.in-Ok-End.field-0-is (c.in-Ok-End.ensures.next kind inside (subst (λ o. IsAbout kind (spoken g.O.SeqObject.sequential g.O.Spoken.language o) c.args.dialect inside) (sym c.loop-answer.invariant.3) about) old written _ remarks now.0 moved) in
    let made = IsSummaryOf (spoken g.O.SeqObject.sequential g.O.Spoken.language c.args.session.now.world.object) inside (session_of c.run_next.new.session) in
    let e = e0 ∙ ap Err c.in_err-write_text-in-Ok-End.ensures.fault in
    let part = subst (λ t. AppendsPrefix (g.W.TextOut.contents c.make_room.new.writer) (g.W.TextOut.contents c.write_text.new.writer) t) ended.1 c.in_err-write_text-in-Ok-End.ensures.prefix in
    subst (HasEnded kind old (g.I.TextIn.remaining c.run_next.new.reader) written (g.W.TextOut.contents c.write_text.new.writer) remarks (g.L.Listener.heard c.run_next.new.listener) made) (sym e)
    (HasEnded-early kind old _ written _ remarks _ now.0 made Write (inr refl) (ReadsOn-stopped kind old _ c.loop-answer.lines written _ _ remarks _ now.0 _ moved _ End ended.0) (text_part kind old _ c.loop-answer.lines written _ _ remarks _ now.0 _ moved _ part))

pub returns-in-Ok-End-clause-run : goal.returns-in-Ok-End-clause-run
returns-in-Ok-End-clause-run g c = λ kind inside about old written remarks taken run.
    let now = c.loop-answer.invariant.4 kind inside about old written remarks taken run in
    let moved = HasRun-moved kind old _ c.loop-answer.lines written _ _ remarks _ now.0 _ now.1 _ _ c.in_ok-make_room.ensures.moved in
    let ended = subst (λ t. GoesOn kind old (g.I.TextIn.remaining c.run_next.new.reader) c.loop-answer.lines c.run_next.new.lines written (g.W.TextOut.contents c.make_room.new.writer) c.make_room.new.text.items c.run_next.new.text.items remarks (g.L.Listener.heard c.loop-answer.listener) (g.L.Listener.heard c.run_next.new.listener) now.0 (inside (session_of c.loop-answer.session)) (inside (session_of c.run_next.new.session)) (Ok t)) c.in-Ok-End.field-0-is (c.in-Ok-End.ensures.next kind inside (subst (λ o. IsAbout kind (spoken g.O.SeqObject.sequential g.O.Spoken.language o) c.args.dialect inside) (sym c.loop-answer.invariant.3) about) old written _ remarks now.0 moved) in
    let all = subst (λ t. Moves (g.W.TextOut.contents c.make_room.new.writer) (g.W.TextOut.contents c.write_text.new.writer) t c.write_text.new.text.items) ended.1 c.in_ok-write_text-in-Ok-End.ensures.moved in
    let b = (inside (session_of c.run_next.new.session)) in
    let run_on = subst (λ s. HasRun kind old (g.I.TextIn.remaining c.loop-answer.reader) c.loop-answer.lines written (g.W.TextOut.contents c.write_text.new.writer) c.write_text.new.text.items remarks (g.L.Listener.heard c.loop-answer.listener) now.0 (Some s)) (sym ended.3) (HasRun-moved kind old _ c.loop-answer.lines written _ _ remarks _ now.0 _ moved _ _ all) in
    let same = ended.4 in
    let object = c.in-Ok-End.ensures.object ∙ c.loop-answer.invariant.3 in
    let after = session_of c.run_next.new.session in
    let o = spoken g.O.SeqObject.sequential g.O.Spoken.language c.args.session.now.world.object in
    subst (λ h. HasEnded kind old (g.I.TextIn.remaining c.run_next.new.reader) written (g.W.TextOut.contents c.run_end.new.writer) remarks h (IsSummaryOf o inside after) c.run_end.result) (sym ended.2)
    (HasEnded-end kind old _ c.loop-answer.lines written _ _ remarks _ now.0 b (IsSummaryOf o inside after) run_on c.in_ok-write_text-in-Ok-End.ensures.all _ ended.0 _ c.run_end.result
    (subst (λ n. WritesAs (outcome_of_end n (Some b)) (g.W.TextOut.contents c.write_text.new.writer) (g.W.TextOut.contents c.run_end.new.writer) c.run_end.result) same (c.run_end.ensures.outcome b))
    (IfOk-with c.run_end.result _ _ (IsSummaryOf o inside after c.loop-answer.lines.count b)
    (λ s f p. (refl, f ∙ ap (λ n. summary_of (spoken g.O.SeqObject.sequential g.O.Spoken.language c.run_next.new.session.world.object) n after) same ∙ ap (λ x. summary_of (spoken g.O.SeqObject.sequential g.O.Spoken.language x) c.loop-answer.lines.count after) object, subst (λ x. IsPromised (spoken g.O.SeqObject.sequential g.O.Spoken.language x) after) object p))
    c.run_end.ensures.summary c.run_end.ensures.promised))

pub returns-in_err-write_text-in-Err-clause-run : goal.returns-in_err-write_text-in-Err-clause-run
returns-in_err-write_text-in-Err-clause-run g c =
    let e0 : c.from_residual-in_err-write_text-in-Err.result ≡ Err c.in_err-write_text-in-Err.field-0.0 = search rules in λ kind inside about old written remarks taken run.
    let now = c.loop-answer.invariant.4 kind inside about old written remarks taken run in
    let moved = HasRun-moved kind old _ c.loop-answer.lines written _ _ remarks _ now.0 _ now.1 _ _ c.in_ok-make_room.ensures.moved in
    let faults = c.in-Err.ensures.next kind inside (subst (λ o. IsAbout kind (spoken g.O.SeqObject.sequential g.O.Spoken.language o) c.args.dialect inside) (sym c.loop-answer.invariant.3) about) old written _ remarks now.0 moved in
    let made = IsSummaryOf (spoken g.O.SeqObject.sequential g.O.Spoken.language c.args.session.now.world.object) inside (session_of c.run_next.new.session) in
    let e = e0 ∙ ap Err c.in_err-write_text-in-Err.ensures.fault in
    let part = subst (λ t. AppendsPrefix (g.W.TextOut.contents c.make_room.new.writer) (g.W.TextOut.contents c.write_text-in-Err.new.writer) t) faults.0 c.in_err-write_text-in-Err.ensures.prefix in
    subst (HasEnded kind old (g.I.TextIn.remaining c.run_next.new.reader) written (g.W.TextOut.contents c.write_text-in-Err.new.writer) remarks (g.L.Listener.heard c.run_next.new.listener) made) (sym e)
    (HasEnded-unwritten kind old _ written _ remarks _ now.0 made c.in-Err.fault faults.1 (text_part kind old _ c.loop-answer.lines written _ _ remarks _ now.0 _ moved _ part))

pub returns-in-Err-clause-run : goal.returns-in-Err-clause-run
returns-in-Err-clause-run g c = λ kind inside about old written remarks taken run.
    let now = c.loop-answer.invariant.4 kind inside about old written remarks taken run in
    let moved = HasRun-moved kind old _ c.loop-answer.lines written _ _ remarks _ now.0 _ now.1 _ _ c.in_ok-make_room.ensures.moved in
    let faults = c.in-Err.ensures.next kind inside (subst (λ o. IsAbout kind (spoken g.O.SeqObject.sequential g.O.Spoken.language o) c.args.dialect inside) (sym c.loop-answer.invariant.3) about) old written _ remarks now.0 moved in
    let made = IsSummaryOf (spoken g.O.SeqObject.sequential g.O.Spoken.language c.args.session.now.world.object) inside (session_of c.run_next.new.session) in
    let all = subst (λ t. Moves (g.W.TextOut.contents c.make_room.new.writer) (g.W.TextOut.contents c.write_text-in-Err.new.writer) t c.write_text-in-Err.new.text.items) faults.0 c.in_ok-write_text-in-Err.ensures.moved in
    HasEnded-fault kind old _ written _ remarks _ now.0 made c.in-Err.fault faults.1
    (text_written kind old _ c.loop-answer.lines written _ _ remarks _ now.0 _ (HasRun-moved kind old _ c.loop-answer.lines written _ _ remarks _ now.0 _ moved _ _ all) c.in_ok-write_text-in-Err.ensures.all)
