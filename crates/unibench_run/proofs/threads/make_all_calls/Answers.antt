use Rattle.unibench_run.proofs.Vocabulary.{IfOk, IfOk-weaker, IsDone, [], arith, ℕ}
use Rattle.unibench_run.proofs.Jobs.{all_jobs_done, job_at, jobs_done}
use Rattle.unibench_run.proofs.threads.make_all_calls.Goals as goal

pub map_vec-requires-after_bounds : goal.map_vec-requires-after_bounds
map_vec-requires-after_bounds g c κs within = λ p job below here.
    let is = job_at c.args.plan.now.seed c.args.seats.items c.in_ok-jobs.jobs.items c.in_ok-jobs.ensures.seats c.in_ok-jobs.ensures.seeds p job below here in
    (c.requires.fit, (p, c.requires.fresh p job.seat is.0))

pub returns : goal.returns
returns g c =
    let plan = c.args.plan.now in
    let made = g.C.Seated.has_made c.args.shared.now in
    let asks = g.C.Seated.call_in in
    let read = g.C.Seated.call_of_word in
    IfOk-weaker c.all_done.result _ _
    (λ all are. all_jobs_done made asks read plan.processes plan.calls plan.seed c.args.seats.items all.items c.requires.many c.requires.fresh
    (jobs_done plan.seed c.args.seats.items c.in_ok-jobs.jobs.items c.in_ok-jobs.ensures.seats c.in_ok-jobs.ensures.seeds
    (λ job one. (p : ℕ) → made p [] job.seat → IfOk one (IsDone made asks read plan.calls job.seed p)) c.in_ok-done.done.items all.items are
    (let len = c.in_ok-done.ensures.len in let a = c.in_ok-done.done.ok.0 in let b = c.in_ok-jobs.jobs.ok.0 in omega arith)
    (λ p d below. let one = (c.in_ok-done.ensures.each p d below).1 in (one.job, one.job_read, one.call.met))))
    c.all_done.ensures
