use Rattle.run_layout.proofs.Vocabulary.{last_space, ◌≡◌, ◌≤◌}
use Rattle.run_layout.proofs.wrapping.last_space.Given as goal

-- the last space is below the place
abbrev pub invariant-loop-at : goal.invariant-loop-at
invariant-loop-at l = record { within : l.at ≤ l.initial.at; same : last_space l.text l.at ≡ last_space l.text l.initial.at }

abbrev pub decreases-loop-at : goal.decreases-loop-at
decreases-loop-at l = l.at
