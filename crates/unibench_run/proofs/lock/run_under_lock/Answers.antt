use Rattle.unibench_run.proofs.Vocabulary.{IfOk, IsThreadsPlan, MakesCalls, ap, arith, length, ◌*◌, ◌∙◌, ◌≤◌}
use Rattle.unibench_run.proofs.Jobs.{job_at, jobs_done}
use Rattle.unibench_run.proofs.Locked.{all_called, first_at, locked_run, no_more, on_ok_of}
use Rattle.unibench_run.proofs.lock.run_under_lock.Goals as goal

pub map_vec-requires-after_bounds : goal.map_vec-requires-after_bounds
map_vec-requires-after_bounds g c κs within = λ p job below here.
    let seed = c.args.plan.now.seed in
    let is = job_at seed _ c.in_ok-jobs.jobs.items c.in_ok-jobs.ensures.seats c.in_ok-jobs.ensures.seeds p job below here in
    ap (λ s. s.receipts) (first_at c.args.plan.now.processes seed p _ c.in-Ok.ensures.seats job is)

pub close_and_audit-requires : goal.close_and_audit-requires
close_and_audit-requires g c =
    let processes = c.args.plan.now.processes in
    let calls = c.args.plan.now.calls in
    let read = g.O.Spoken.language.inv_of_word in
    let seats = c.in_ok-seats.seats.items in
    let done = jobs_done c.args.plan.now.seed _ c.in_ok-jobs.jobs.items c.in_ok-jobs.ensures.seats c.in_ok-jobs.ensures.seeds
    (λ job one. IfOk one (MakesCalls read job calls)) c.in_ok-done.done.items seats c.in_ok-seats.ensures
    (let len = c.in_ok-done.ensures.len in let a = c.in_ok-done.done.ok.0 in let b = c.in_ok-jobs.jobs.ok.0 in omega arith)
    (λ p d below. let one = (c.in_ok-done.ensures.each p d below).1 in (one.job, one.job_read, one.call.met)) in
    let are = all_called read processes calls c.args.plan.now.seed _ seats c.in-Ok.ensures.seats done in
    let plan : IsThreadsPlan c.args.plan.now = c.requires.plan in
    let few : length seats ≤ 64 = (let many = are.many in let most = plan.1 in omega arith) in
    record { few = (few, c.requires.room.0); no_more = no_more read processes calls c.args.plan.now.seed seats are }

pub returns-clause-run : goal.returns-clause-run
returns-clause-run g c =
    let processes = c.args.plan.now.processes in
    let calls = c.args.plan.now.calls in
    let read = g.O.Spoken.language.inv_of_word in
    let seats = c.in_ok-seats.seats.items in
    let done = jobs_done c.args.plan.now.seed _ c.in_ok-jobs.jobs.items c.in_ok-jobs.ensures.seats c.in_ok-jobs.ensures.seeds
    (λ job one. IfOk one (MakesCalls read job calls)) c.in_ok-done.done.items seats c.in_ok-seats.ensures
    (let len = c.in_ok-done.ensures.len in let a = c.in_ok-done.done.ok.0 in let b = c.in_ok-jobs.jobs.ok.0 in omega arith)
    (λ p d below. let one = (c.in_ok-done.ensures.each p d below).1 in (one.job, one.job_read, one.call.met)) in
    let are = all_called read processes calls c.args.plan.now.seed _ seats c.in-Ok.ensures.seats done in
    on_ok_of c.close_and_audit.result c.close_and_audit.ensures.replies c.close_and_audit.ensures.each c.close_and_audit.ensures.closed
    (λ replies is whole run. (
      is ∙ ap (λ n. n * calls) are.many,
      locked_run read processes calls c.args.plan.now.seed seats are g.O.SeqObject.sequential run.0 run.1 whole run.2,
    ))
