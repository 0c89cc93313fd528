use Rattle.unidraw_run.proofs.Vocabulary.{HasRangeFault, IfOk-at_ok, IsLines, IsPage, IsPicture, IsPictureIn, OfRange, Script, WritesSuch, ap, is_streamed, range_of, subst, sym}
use Rattle.run_tell.proofs.Tellings.{WritesSuch-weaker}
use Rattle.unidraw_run.proofs.Drawing.{no_script_write, not_memory, not_write}
use Rattle.unidraw_run.proofs.program.draw_form.Goals as goal

pub returns-in-Svg-clause-drawn : goal.returns-in-Svg-clause-drawn
returns-in-Svg-clause-drawn g c =
    let left = g.I.TextIn.remaining c.args.input.now in
    subst (λ form. WritesSuch c.write_picture.result (IsPictureIn form left) (g.O.TextOut.contents c.args.output.now) (g.O.TextOut.contents c.write_picture.new.output)) (sym c.in-Svg.is)
    (WritesSuch-weaker c.write_picture.result _ _ _ _ (λ text is. subst (IsPicture c.in-Svg.range left) (sym is.2) (IfOk-at_ok _ is.1 c.picture_of.ensures.picture)) c.write_picture.ensures.drawn)

pub returns-in-Svg-clause-unwritten : goal.returns-in-Svg-clause-unwritten
returns-in-Svg-clause-unwritten g c = λ e is before. (c.write_picture.ensures.fault e is (not_write c.args.form e before)).1

pub returns-in-Svg-clause-range : goal.returns-in-Svg-clause-range
returns-in-Svg-clause-range g c = λ e is.
    subst (λ form. HasRangeFault (range_of form) e (g.I.TextIn.remaining c.args.input.now)) (sym c.in-Svg.is)
    (c.picture_of.ensures.range e (c.write_picture.ensures.fault (OfRange e) is (λ same. cc)).0)

pub returns-in-Svg-clause-fault : goal.returns-in-Svg-clause-fault
returns-in-Svg-clause-fault g c = λ e is fault. c.picture_of.ensures.fault e (c.write_picture.ensures.fault (Script e) is (no_script_write e fault)).0 fault

pub returns-in-Lines-clause-drawn : goal.returns-in-Lines-clause-drawn
returns-in-Lines-clause-drawn g c =
    let left = g.I.TextIn.remaining c.args.input.now in
    subst (λ form. WritesSuch c.write_picture-in-Lines.result (IsPictureIn form left) (g.O.TextOut.contents c.args.output.now) (g.O.TextOut.contents c.write_picture-in-Lines.new.output)) (sym c.in-Lines.is)
    (WritesSuch-weaker c.write_picture-in-Lines.result _ _ _ _ (λ text is. subst (IsLines c.in-Lines.range c.in-Lines.columns left) (sym is.2) (IfOk-at_ok _ is.1 c.lines_of.ensures.lines)) c.write_picture-in-Lines.ensures.drawn)

pub returns-in-Lines-clause-unwritten : goal.returns-in-Lines-clause-unwritten
returns-in-Lines-clause-unwritten g c = λ e is before. (c.write_picture-in-Lines.ensures.fault e is (not_write c.args.form e before)).1

pub returns-in-Lines-clause-range : goal.returns-in-Lines-clause-range
returns-in-Lines-clause-range g c = λ e is.
    subst (λ form. HasRangeFault (range_of form) e (g.I.TextIn.remaining c.args.input.now)) (sym c.in-Lines.is)
    (c.lines_of.ensures.range e (c.write_picture-in-Lines.ensures.fault (OfRange e) is (λ same. cc)).0)

pub returns-in-Lines-clause-fault : goal.returns-in-Lines-clause-fault
returns-in-Lines-clause-fault g c = λ e is fault. c.lines_of.ensures.fault e (c.write_picture-in-Lines.ensures.fault (Script e) is (no_script_write e fault)).0 fault

pub returns-in-Html-clause-drawn : goal.returns-in-Html-clause-drawn
returns-in-Html-clause-drawn g c =
    let left = g.I.TextIn.remaining c.args.input.now in
    subst (λ form. WritesSuch c.write_picture-in-Html.result (IsPictureIn form left) (g.O.TextOut.contents c.args.output.now) (g.O.TextOut.contents c.write_picture-in-Html.new.output)) (sym c.in-Html.is)
    (WritesSuch-weaker c.write_picture-in-Html.result _ _ _ _ (λ text is. subst (IsPage c.in-Html.range left) (sym is.2) (IfOk-at_ok _ is.1 c.page_of.ensures.page)) c.write_picture-in-Html.ensures.drawn)

pub returns-in-Html-clause-unwritten : goal.returns-in-Html-clause-unwritten
returns-in-Html-clause-unwritten g c = λ e is before. (c.write_picture-in-Html.ensures.fault e is (not_write c.args.form e before)).1

pub returns-in-Html-clause-range : goal.returns-in-Html-clause-range
returns-in-Html-clause-range g c = λ e is.
    subst (λ form. HasRangeFault (range_of form) e (g.I.TextIn.remaining c.args.input.now)) (sym c.in-Html.is)
    (c.page_of.ensures.range e (c.write_picture-in-Html.ensures.fault (OfRange e) is (λ same. cc)).0)

pub returns-in-Html-clause-fault : goal.returns-in-Html-clause-fault
returns-in-Html-clause-fault g c = λ e is fault. c.page_of.ensures.fault e (c.write_picture-in-Html.ensures.fault (Script e) is (no_script_write e fault)).0 fault

pub returns-in-Steps-clause-drawn : goal.returns-in-Steps-clause-drawn
returns-in-Steps-clause-drawn g c = subst (λ form. WritesSuch c.tell_script.result (IsPictureIn form (g.I.TextIn.remaining c.args.input.now)) (g.O.TextOut.contents c.args.output.now) (g.O.TextOut.contents c.tell_script.new.out)) (sym c.in-Steps.is) c.tell_script.ensures.told

pub returns-in-Steps-clause-unwritten : goal.returns-in-Steps-clause-unwritten
returns-in-Steps-clause-unwritten g c = λ e is before. c.tell_script.ensures.unwritten e is (not_memory c.args.form e (ap is_streamed c.in-Steps.is) before) (not_write c.args.form e before)

pub returns-in-Steps-clause-range : goal.returns-in-Steps-clause-range
returns-in-Steps-clause-range g c = λ e is. subst (λ form. HasRangeFault (range_of form) e (g.I.TextIn.remaining c.args.input.now)) (sym c.in-Steps.is) (c.tell_script.ensures.range e is)

pub returns-in-Json-clause-drawn : goal.returns-in-Json-clause-drawn
returns-in-Json-clause-drawn g c = subst (λ form. WritesSuch c.tell_script-in-Json.result (IsPictureIn form (g.I.TextIn.remaining c.args.input.now)) (g.O.TextOut.contents c.args.output.now) (g.O.TextOut.contents c.tell_script-in-Json.new.out)) (sym c.in-Json.is) c.tell_script-in-Json.ensures.told

pub returns-in-Json-clause-unwritten : goal.returns-in-Json-clause-unwritten
returns-in-Json-clause-unwritten g c = λ e is before. c.tell_script-in-Json.ensures.unwritten e is (not_memory c.args.form e (ap is_streamed c.in-Json.is) before) (not_write c.args.form e before)

pub returns-in-Json-clause-range : goal.returns-in-Json-clause-range
returns-in-Json-clause-range g c = λ e is. subst (λ form. HasRangeFault (range_of form) e (g.I.TextIn.remaining c.args.input.now)) (sym c.in-Json.is) (c.tell_script-in-Json.ensures.range e is)

pub returns-in-Full-clause-drawn : goal.returns-in-Full-clause-drawn
returns-in-Full-clause-drawn g c = subst (λ form. WritesSuch c.tell_script-in-Full.result (IsPictureIn form (g.I.TextIn.remaining c.args.input.now)) (g.O.TextOut.contents c.args.output.now) (g.O.TextOut.contents c.tell_script-in-Full.new.out)) (sym c.in-Full.is) c.tell_script-in-Full.ensures.told

pub returns-in-Full-clause-unwritten : goal.returns-in-Full-clause-unwritten
returns-in-Full-clause-unwritten g c = λ e is before. c.tell_script-in-Full.ensures.unwritten e is (not_memory c.args.form e (ap is_streamed c.in-Full.is) before) (not_write c.args.form e before)

pub returns-in-Full-clause-range : goal.returns-in-Full-clause-range
returns-in-Full-clause-range g c = λ e is. subst (λ form. HasRangeFault (range_of form) e (g.I.TextIn.remaining c.args.input.now)) (sym c.in-Full.is) (c.tell_script-in-Full.ensures.range e is)

pub returns-in-History-clause-drawn : goal.returns-in-History-clause-drawn
returns-in-History-clause-drawn g c = subst (λ form. WritesSuch c.tell_history.result (IsPictureIn form (g.I.TextIn.remaining c.args.input.now)) (g.O.TextOut.contents c.args.output.now) (g.O.TextOut.contents c.tell_history.new.out)) (sym c.in-History.is) c.tell_history.ensures.told

pub returns-in-History-clause-unwritten : goal.returns-in-History-clause-unwritten
returns-in-History-clause-unwritten g c = λ e is before. c.tell_history.ensures.unwritten e is (not_memory c.args.form e (ap is_streamed c.in-History.is) before) (not_write c.args.form e before)

pub returns-in-History-clause-range : goal.returns-in-History-clause-range
returns-in-History-clause-range g c = λ e is. subst (λ form. HasRangeFault (range_of form) e (g.I.TextIn.remaining c.args.input.now)) (sym c.in-History.is) (c.tell_history.ensures.range e is)
