use Rattle.unibench_run.proofs.Vocabulary.{sym}
use Rattle.unibench_run.proofs.threads.run_on_words.Goals as goal

pub make_all_calls-requires-clause-fresh : goal.make_all_calls-requires-clause-fresh
make_all_calls-requires-clause-fresh g c κs within = λ p seat at.
    let fresh = c.in-Ok.ensures.seats.each p seat at in record { is_seat = fresh.own; process = fresh.process; own = sym fresh.calls; made = fresh.made }
