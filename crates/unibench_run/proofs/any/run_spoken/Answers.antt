use Rattle.unibench_run.proofs.Vocabulary.{ap, refl, sym}
use Rattle.unibench_run.specs.Any.{told_of}
use Rattle.unibench_run.proofs.any.run_spoken.Goals as goal

pub make_all_calls-requires-clause-fresh : goal.make_all_calls-requires-clause-fresh
make_all_calls-requires-clause-fresh g c κs within = λ p seat at.
    let fresh = c.in-Ok.ensures.seats.each p seat at in
    record { is_seat = fresh.own; process = fresh.process; idle = fresh.idle; own = ap told_of (sym fresh.none) }

pub returns-clause-run : goal.returns-clause-run
returns-clause-run g c = (refl, (_, c.in_ok-close_any.ensures.told))
