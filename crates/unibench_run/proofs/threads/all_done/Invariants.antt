use Rattle.unibench_run.proofs.Vocabulary.{Ok, into_iter_items, map, ◌++◌, ◌≡◌}
use Rattle.unibench_run.proofs.threads.all_done.Given as goal

-- what was taken so far are these
abbrev pub invariant-loop-one : goal.invariant-loop-one
invariant-loop-one g l = into_iter_items l.initial.one-iterator ≡ map Ok l.all.items ++ into_iter_items l.one-iterator
