use Rattle.run_tell.proofs.Tellings.{IfOk-two}
use Rattle.run_play.proofs.Paging.{IsPlayed-run}
use Rattle.run_play.proofs.page.page_of.Goals as goal

pub returns-clause-page : goal.returns-clause-page
returns-clause-page g c =
    let of = c.page_of_run.ensures in
    let run = c.in_ok-run.run' in
    IfOk-two c.page_of_run.result _ _ _ of.accepted of.page (λ text accepted paged. IsPlayed-run c.args.goal.now _ _ run c.default.ensures c.in_ok-run.ensures.run accepted text.items paged)
