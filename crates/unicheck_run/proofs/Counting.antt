-- How many calls begin in a part of a history.
use Rattle.std.proofs.Common.{◌≤◌, ℕ, List, cond, take}
use Rattle.std.proofs.lemmas.List.Sums.{sum_by-take-le}
use Rattle.lin_check.specs.declared.event.Event.{Event}
use Rattle.unicheck_run.specs.Judged.{calls_of, is_call}

-- in the first events there are no more than in all
pub calls_take : {I R : Type 0} (events : List (Event I R)) (n : ℕ) → calls_of (take n events) ≤ calls_of events
calls_take events n = sum_by-take-le (λ event. cond (is_call event) 1 0) events n
