use Rattle.run_tell.proofs.Vocabulary.{IsPage, default_run, fault_run, page_between, ◌≡◌}
use Rattle.run_tell.proofs.Tellings.{IfOk-two, IsToldBy-run}
use Rattle.run_tell.specs.declared.viewer.TheConstants.{END, MIDDLE, START}
use Rattle.uni_script.specs.declared.fault.BenchFault.TheVariants.{Memory, Read}
use Rattle.run_tell.proofs.page.page_of.Goals as goal

pub returns-clause-page : goal.returns-clause-page
unfolding IsPage
returns-clause-page g c =
    let of = c.page_of_run.ensures in
    let run = c.in_ok-run.run' in
    let given = default_run _ _ run c.default.ensures c.in_ok-run.ensures.run in
    IfOk-two c.page_of_run.result _ _ _ of.fits of.page (λ text fits is. IsToldBy-run (page_between START.now MIDDLE.now END.now c.args.range) c.args.range _ run given text.items fits (is given.3.2.version) of.linearizable)

pub returns-clause-range : goal.returns-clause-range
returns-clause-range g c = λ e is. fault_run c.args.range _ c.in_ok-run.run' (default_run _ _ c.in_ok-run.run' c.default.ensures c.in_ok-run.ensures.run) e (c.page_of_run.ensures.range e is)

pub returns-clause-reader : goal.returns-clause-reader
returns-clause-reader g c = λ is. absurd (let bad : Read ≡ Memory = c.page_of_run.ensures.memory Read is in cc)
