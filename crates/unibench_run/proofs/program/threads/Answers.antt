use Rattle.std.proofs.Common.{ap, refl, Err}
use Rattle.unibench_run.proofs.ThreadsFailed.{threads_failed}
use Rattle.unibench_run.proofs.program.threads.Goals as goal

pub returns-in-Err-clause-run : goal.returns-in-Err-clause-run
returns-in-Err-clause-run g c =
    let said = c.in-Err.ensures in
    threads_failed c.args.plan.now _ _ _ c.in-Err.fault c.report_threads.result c.report_threads.ensures.status
    ((λ e. said.there.0 (ap Err e)), (λ e. let same = said.there.1 e in cc))
    ((λ e. said.few.0 (ap Err e)), (λ e. let same = said.few.1 e in cc))
    ((λ e. said.failed.0 (ap Err e)), (λ e. let same = said.failed.1 e in cc))
    (λ e. said.prefix (ap Err e)) (λ good. ap g.O.TextOut.contents (said.kept good)) (said.closing c.in-Err.fault refl)
