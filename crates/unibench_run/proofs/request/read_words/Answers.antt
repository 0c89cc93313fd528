use Rattle.unibench_run.proofs.Vocabulary.{HasKind, ap, fault_of, map, request_in, subcommand_of, subst, sym, ◌∙◌}
use Rattle.unibench_run.proofs.CommandLine.{is_simple_and_free-unibench, is_simple-unibench}
use Rattle.unibench_run.proofs.request.read_words.Goals as goal

pub returns-in-Ok-clause-asked : goal.returns-in-Ok-clause-asked
returns-in-Ok-clause-asked g c =
    let whole = c.in_ok-unibench.field-0 in
    let is = c.in_ok-unibench.ensures in
    let words = map g.S.AsStr.text c.args.words.now in (
      ap (λ app. fault_of app words) (sym is) ∙ c.in-Ok.ensures.kinds (is_simple_and_free-unibench whole is),
      c.request_in.ensures ∙ ap request_in ((c.in-Ok.ensures.matches (is_simple-unibench whole is)).1 ∙ ap (λ app. subcommand_of app words) is),
    )

pub returns-in-Err-clause-fault : goal.returns-in-Err-clause-fault
returns-in-Err-clause-fault g c =
    let whole = c.in_ok-unibench.field-0 in
    let is = c.in_ok-unibench.ensures in
    subst (λ app. HasKind (fault_of app (map g.S.AsStr.text c.args.words.now)) c.in-Err.error) is (c.in-Err.ensures.kinds (is_simple_and_free-unibench whole is))
