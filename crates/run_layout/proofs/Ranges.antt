-- Why some events can't be chosen of a run.
use Rattle.run_layout.proofs.Vocabulary.{Bool, HasRangeFault, List, None, Option, PastEnd, Range, RangeFault, Some, TooManyEvents, all_events, count_in, false, if◌then◌else◌, ltb-false, nat_le, nat_lt, range_fault, refl, true, ℕ, ◌&&◌, ◌≡◌, ◌≢◌, ◌≤◌}

-- the second test fails where there is no fault
no_fault : (past many : Bool) → (if past then Some PastEnd else if many then Some TooManyEvents else None) ≡ None → many ≡ false
no_fault true many none = cc
no_fault false true none = cc
no_fault false false none = refl

-- events that can be chosen are 2,000 at most
pub few_in : (range : Range) (events : ℕ) → range_fault range events ≡ None → count_in range events ≤ 2000
unfolding range_fault
few_in range events none =
    ltb-false 2000 (count_in range events)
    (no_fault (nat_lt 0 range.from && nat_le events range.from) (nat_lt 2000 (count_in range events)) none)

-- all events don't begin past the end
not_past : (many : Bool) → (if many then Some TooManyEvents else None) ≢ Some PastEnd
not_past true same = cc
not_past false same = cc

all_not_past : (events : ℕ) → range_fault all_events events ≢ Some PastEnd
unfolding range_fault
all_not_past events same = not_past (nat_lt 2000 (count_in all_events events)) same

-- so of all events only too many are refused
pub all_too_many : (e : RangeFault) (left : Option (List ℕ)) → HasRangeFault all_events e left → HasRangeFault all_events TooManyEvents left
all_too_many TooManyEvents left has = has
all_too_many PastEnd left has = absurd (all_not_past _ has.fault)
