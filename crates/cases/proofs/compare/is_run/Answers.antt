use Rattle.std.proofs.Common.{◌≡◌, ◌∙◌, [], Some, ap, rules}
use Rattle.unibench_run.specs.declared.request.Request.TheVariants.{Replay}
use Rattle.cases.proofs.Agreeing.{if_agreed, if_same, not_failed, replay_agrees, run_as_wanted}
use Rattle.cases.proofs.compare.is_run.Goals as goal

pub returns-clause-run : goal.returns-clause-run
returns-clause-run g c = λ r asks.
    let was : Some c.new-output.result.end.items ≡ Some [] = ap Some (ap (λ end. end.items) c.new-output.ensures.end ∙ c.new.ensures.items) in
    let is : Some c.run-status.new.output.end.items ≡ Some c.as_slice.result.now = search rules in
    if_agreed c.is_wanted.result c.is_wanted.ensures.few c.is_wanted.ensures.same (λ few same.
    run_as_wanted r _ _ _ _ _ _ _ _ _ (c.run-status.ensures.asked r asks)
    was is (not_failed _ _ c.run-status.ensures.ends.written few) same.0 same.1)

pub returns-clause-good : goal.returns-clause-good
returns-clause-good g c = λ options script asks good none.
    let was : Some c.new-output.result.end.items ≡ Some [] = ap Some (ap (λ end. end.items) c.new-output.ensures.end ∙ c.new.ensures.items) in
    let is : Some c.run-status.new.output.end.items ≡ Some c.as_slice.result.now = search rules in
    let told : c.as_slice-2.result.now ≡ c.run-status.new.faults.end.items = search rules in
    let untold : c.new-told.result.end.items ≡ [] = ap (λ end. end.items) c.new-told.ensures.end ∙ c.new-2.ensures.items in
    let run = c.run-status.ensures.asked (Replay options) asks.0 in
    if_same c.is_wanted.result c.is_wanted.ensures.few c.is_wanted.ensures.same (λ few.
    replay_agrees options _ _ _ _ _ _ script _ _ _ _ _ run was is asks.1 few c.run-status.ensures.statuses.not_1
    (λ ended. told ∙ ap (λ f. f.end.items) (c.run-status.ensures.silent (Replay options) asks.0 ended) ∙ untold) good none)
