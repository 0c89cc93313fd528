use Rattle.uni_record.proofs.Vocabulary.{owed_by, sum_below, world_of, ◌*◌, ◌+◌, ◌-◌, ◌≡◌, ◌≤◌}
use Rattle.uni_record.proofs.room.set_aside.Given as goal

abbrev pub invariant-loop-p : goal.invariant-loop-p
invariant-loop-p g l = (l.sum ≡ sum_below l.p (owed_by (λ steps. 10 * l.n + 12 - steps) (world_of l.world))) × (l.sum ≤ 652 * l.p)
