use Rattle.unibench_run.proofs.Vocabulary.{IfOk-weaker, ap, ap₂, in_range, with_rule, ◌-◌, ◌^◌, ◌∙◌}
use Rattle.unibench_run.proofs.request.random_command.Goals as goal

pub returns-clause-app : goal.returns-clause-app
returns-clause-app c =
    let one = c.in_ok-command.ensures.app ∙ ap₂ with_rule c.described-command.ensures.app c.option.ensures.rule in
    let two = c.in_ok-command-2.ensures.app ∙ ap₂ with_rule one c.number-processes.ensures.rule in
    let three = c.in_ok-command-3.ensures.app ∙ ap₂ with_rule two c.number.ensures.rule in
    let four = c.in_ok-command-4.ensures.app ∙ ap₂ with_rule three (c.in_range.ensures.rule ∙ ap (λ r. in_range r 0 (2 ^ 64 - 1)) c.option-seed.ensures.rule) in
    IfOk-weaker c.with-5.result _ _ (λ command added. added ∙ ap₂ with_rule four c.number-2.ensures.rule) c.with-5.ensures.app
