use Rattle.uni_script.proofs.Vocabulary.{Err, HasEnded, rules, subst, sym, ◌≡◌}
use Rattle.uni_script.proofs.driver.run_script.Goals as goal

pub returns-in_err-header-clause-run : goal.returns-in_err-header-clause-run
returns-in_err-header-clause-run g c =
    let e : c.from_residual.result ≡ Err c.in_err-header.field-0.0 = search rules in
    subst (HasEnded (g.C.Catalogue.kind c.args.catalogue c.args.options.now) (g.I.TextIn.remaining c.args.reader.now) (g.I.TextIn.remaining c.take_header.new.reader) (g.W.TextOut.contents c.args.writer.now) (g.W.TextOut.contents c.take_header.new.writer) (g.L.Listener.heard c.args.listener.now) (g.L.Listener.heard c.take_header.new.listener) (g.C.Catalogue.IsRan c.args.catalogue)) (sym e) c.in_err-header.ensures.ended

pub returns-clause-run : goal.returns-clause-run
returns-clause-run g c =
    let has = c.in_ok-header.ensures.run in
    c.run.ensures.run (g.I.TextIn.remaining c.args.reader.now) (g.W.TextOut.contents c.args.writer.now) (g.L.Listener.heard c.args.listener.now) has.0 has.1
