-- What is found of a recorded history.
use Rattle.std.specs.Prelude.{◌+◌, ◌<◌, ℕ, List, Option, Some, None, codes, if◌then◌else◌, length, nat_eq, take}
use Rattle.seq_object.specs.Sequential.{Sequential}
use Rattle.lin_check.specs.declared.event.Event.{Event}
use Rattle.lin_check.specs.Verdicts.{IsLinearizable, IsOrder}
use Rattle.unicheck_run.specs.declared.judging.Finding.{Finding}
use Rattle.unicheck_run.specs.declared.judging.Finding.TheVariants.{Linearizable, NotLinearizable, GaveUp}

-- the first k events are linearizable, and with the event at place k they are not
pub record IsFirstBad {S I R : Type 0} (object : Sequential S I R) (history : List (Event I R)) (k : ℕ) : Type 0 where
  pub within : k < length history
  pub good : IsLinearizable object (take k history)
  pub bad : ¬ (IsLinearizable object (take (k + 1) history))

-- the event with which no order is left, where one was found
abbrev pub IsFirstBadIf : {S I R : Type 0} → Sequential S I R → List (Event I R) → Option ℕ → Type 0
IsFirstBadIf object history None = Unit {0}
IsFirstBadIf object history (Some k) = IsFirstBad object history k

-- what a finding says
abbrev pub IsFound : {S I R : Type 0} → Sequential S I R → List (Event I R) → Finding → Type 0
IsFound object history (Linearizable order) = IsOrder object history order.items
IsFound object history (NotLinearizable first) = ¬ (IsLinearizable object history) × IsFirstBadIf object history first
IsFound object history GaveUp = Unit {0}

-- the status of a finding
abbrev pub status_of : Finding → ℕ
status_of (Linearizable order) = 0
status_of (NotLinearizable first) = 1
status_of GaveUp = 5

-- what a status of a finding says, in words
abbrev pub verdict : (status : ℕ) → List ℕ
verdict status =
    if nat_eq status 0 then codes "linearizable" else if nat_eq status 1 then codes "not linearizable" else codes "gave up"
