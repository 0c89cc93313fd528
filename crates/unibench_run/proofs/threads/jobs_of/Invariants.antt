use Rattle.unibench_run.proofs.Vocabulary.{Job, into_iter_items, length, map, range_with_len, seed_of, ◌++◌, ◌≡◌}
use Rattle.unibench_run.proofs.threads.jobs_of.Given as goal

-- the jobs so far are of the seats that have been taken, with the seeds of their places
abbrev pub invariant-loop-seat : goal.invariant-loop-seat
invariant-loop-seat g l = record {
  taken : into_iter_items l.initial.seat-iterator ≡ map (λ (job : Job g.row.S.Denot). job.seat) l.jobs.items ++ into_iter_items l.seat-iterator;
  seeds : map (λ (job : Job g.row.S.Denot). job.seed) l.jobs.items ≡ map (seed_of l.seed) (range_with_len 0 (length l.jobs.items));
}
