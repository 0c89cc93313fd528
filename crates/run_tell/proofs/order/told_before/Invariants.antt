use Rattle.run_tell.proofs.Vocabulary.{drop, told_before, ◌+◌, ◌≡◌}
use Rattle.run_tell.proofs.order.told_before.Given as goal

-- those so far, and those of the rest
abbrev pub invariant-loop-place : goal.invariant-loop-place
invariant-loop-place l = l.place + told_before l.event (drop l.place l.remarks) ≡ told_before l.event l.remarks
