use Rattle.unibench_run.proofs.Vocabulary.{Job, [], ap, append_assoc, arith, into_iter_items, length, map, map-append, seed_of, sym, ◌++◌, ◌∙◌, ◌∷◌, ◌≡◌}
use Rattle.unibench_run.proofs.DrawnBy.{one_more_seed}
use Rattle.unibench_run.proofs.threads.jobs_of.Goals as goal

pub loop-seat-preserved : goal.loop-seat-preserved
loop-seat-preserved g c =
    let seat_in = λ (job : Job g.row.S.Denot). job.seat in
    let seed_in = λ (job : Job g.row.S.Denot). job.seed in
    let jobs = c.loop-seat.jobs.items in
    let rest = into_iter_items c.next.new.self in
    let pushed = ap (map seat_in) c.in_ok-push.ensures.items ∙ map-append seat_in jobs _ in
    let long : c.len-process.result ≡ length jobs = (let e = c.len-process.ensures in let f = c.loop-seat.jobs.ok.0 in omega arith) in
    record {
      taken = c.loop-seat.invariant.taken ∙ ap (λ l. map seat_in jobs ++ l) c.in-Some.ensures.steps.0
          ∙ sym (append_assoc (map seat_in jobs) (c.in-Some.seat ∷ []) rest)
          ∙ ap (λ l. l ++ rest) (sym pushed);
      seeds = one_more_seed seed_in c.args.seed jobs _ _ c.in_ok-push.ensures.items (ap (seed_of c.args.seed) long) c.loop-seat.invariant.seeds;
    }
