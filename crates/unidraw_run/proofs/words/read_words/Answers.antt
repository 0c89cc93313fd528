use Rattle.unidraw_run.proofs.Vocabulary.{HasKind, ap, fault_of, map, matches_of, request_in, subst, sym, ◌∙◌}
use Rattle.unidraw_run.proofs.CommandLine.{conflicting, faulty, is_simple-unidraw, is_simple_and_free-unidraw, unless_faulty-none}
use Rattle.unidraw_run.proofs.words.read_words.Goals as goal

pub returns-in-Some-clause-asked : goal.returns-in-Some-clause-asked
returns-in-Some-clause-asked g c =
    let whole = c.in_ok-unidraw.field-0 in
    let is = c.in_ok-unidraw.ensures in
    let words = map g.S.AsStr.text c.args.words.now in
    let good = ap (λ app. fault_of app words) (sym is) ∙ c.in-Ok.ensures.kinds (is_simple_and_free-unidraw whole is) in
    let rows = (c.in-Ok.ensures.matches (is_simple-unidraw whole is)).0 ∙ ap (λ app. matches_of app words) is in
    unless_faulty-none _ _ good ∙ ap request_in (sym rows) ∙ sym c.request_in.ensures ∙ c.in-Some.is

pub returns-in-Ok-clause-fault : goal.returns-in-Ok-clause-fault
returns-in-Ok-clause-fault g c =
    let whole = c.in_ok-unidraw.field-0 in
    let is = c.in_ok-unidraw.ensures in
    let words = map g.S.AsStr.text c.args.words.now in
    let good = ap (λ app. fault_of app words) (sym is) ∙ c.in-Ok.ensures.kinds (is_simple_and_free-unidraw whole is) in
    let rows = (c.in-Ok.ensures.matches (is_simple-unidraw whole is)).0 ∙ ap (λ app. matches_of app words) is in
    conflicting _ _ c.in_ok-conflict-in-None.field-0 good (ap request_in (sym rows) ∙ sym c.request_in.ensures ∙ c.in-None.is) c.in_ok-conflict-in-None.ensures

pub returns-clause-fault : goal.returns-clause-fault
returns-clause-fault g c =
    let whole = c.in_ok-unidraw.field-0 in
    let is = c.in_ok-unidraw.ensures in
    let words = map g.S.AsStr.text c.args.words.now in
    faulty _ _ c.in-Err.error (subst (λ app. HasKind (fault_of app words) c.in-Err.error) is (c.in-Err.ensures.kinds (is_simple_and_free-unidraw whole is)))
