use Rattle.unibench_run.proofs.Vocabulary.{App, IfOk-weaker, ap, ap₂, with_subcommand, ◌∙◌}
use Rattle.unibench_run.proofs.request.unibench.Goals as goal

pub returns : goal.returns
returns c =
    let one = c.in_ok-program.ensures.shape c.in_ok-replay.ensures.local ∙ ap₂ with_subcommand c.program.ensures.app (ap (λ (a : App). a.top) c.in_ok-replay.ensures.app) in
    let two = c.in_ok-program-2.ensures.shape c.in_ok-random.ensures.local ∙ ap₂ with_subcommand one (ap (λ (a : App). a.top) c.in_ok-random.ensures.app) in
    let three = c.in_ok-program-3.ensures.shape c.in_ok-threads.ensures.local ∙ ap₂ with_subcommand two (ap (λ (a : App). a.top) c.in_ok-threads.ensures.app) in
    IfOk-weaker c.subcommand-4.result _ _ (λ command added. added.shape c.in_ok-language.ensures.local ∙ ap₂ with_subcommand three (ap (λ (a : App). a.top) c.in_ok-language.ensures.app)) c.subcommand-4.ensures
