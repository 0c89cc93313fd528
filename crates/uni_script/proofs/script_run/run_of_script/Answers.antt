use Rattle.uni_script.proofs.Vocabulary.{Err, Heard, IsRan, ap, arith, heard_of_script, length, length-map, map, remark_at, scripts, sym, ◌++◌, ◌∙◌, ◌≡◌, ◌≤◌}
use Rattle.uni_script.proofs.Replaying.{HasEnded-whole, HasEnded-bad}
use Rattle.uni_script.proofs.script_run.run_of_script.Goals as goal

pub returns-in-Ok-clause-run : goal.returns-in-Ok-clause-run
returns-in-Ok-clause-run g c =
    let remarks = c.run_script.new.listener.remarks.items in
    let whole = HasEnded-whole (scripts c.args.options.now) _ _ _ _ _ _ IsRan c.in-Ok.ran c.in-Ok.ensures.run in
    let all = heard_of_script (scripts c.args.options.now) whole.0 in
    let heard : record { remarks = map remark_at remarks; lines = c.run_script.new.listener.lines.items } ≡ all =
    whole.3.2.1 ∙ ap (λ l. record { remarks = map remark_at l ++ all.remarks; lines = c.new-heard.result.lines.items ++ all.lines }) c.new-heard.ensures.remarks
    ∙ ap (λ l. record { remarks = all.remarks; lines = l ++ all.lines }) c.new-heard.ensures.lines in
    let remarks_are = ap (λ (h : Heard). h.remarks) heard in
    let many : length remarks ≤ 100000 = (let n = length-map remarks remark_at in let m = ap length remarks_are in let few = whole.3.2.2 in omega arith) in (
      whole.0,
      whole.1,
      whole.2,
      (whole.3.0, whole.3.1, record { version = whole.3.2.0.1.2.0; session = whole.3.2.0.1.2.1; remarks_are = sym remarks_are; lines_are = sym (ap (λ (h : Heard). h.lines) heard); few = many }),
    )

pub returns-in-Err-clause-fault : goal.returns-in-Err-clause-fault
returns-in-Err-clause-fault g c = λ own. let bad = HasEnded-bad (scripts c.args.options.now) _ _ _ _ _ _ IsRan (Err c.in-Err.fault) c.in-Err.ensures.run own in (bad.0, bad.1, bad.2)
