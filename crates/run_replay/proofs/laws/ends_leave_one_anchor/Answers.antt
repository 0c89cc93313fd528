use Rattle.run_replay.proofs.Vocabulary.{last_cell, last_cell_threaded, refl}
use Rattle.run_replay.proofs.laws.ends_leave_one_anchor.Goals as goal

pub returns : goal.returns
returns g c object w n inv quiet =
    let settled = inv.2.values.threaded (last_cell w) (last_cell_threaded (g.O.SeqObject.sequential object) w inv.0 inv.1 inv.2 quiet) in
    (settled.0.0, rw settled.1 refl)
