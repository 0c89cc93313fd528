use Rattle.lin_check.proofs.OnPaper.{stale_take-none, taken_twice-none, from_nowhere-none, twice_at_once-none, returns_first-none, before_stale_take, overlapping_puts-turned, never_returned-lost, never_returned-late, taken_early-order, swapped_early-order}
use Rattle.lin_check.proofs.worked.worked_histories.Goals as goal

pub returns-clause-stale_take : goal.returns-clause-stale_take
returns-clause-stale_take c lin = stale_take-none lin

pub returns-clause-lost_once : goal.returns-clause-lost_once
returns-clause-lost_once c lin = taken_twice-none lin

pub returns-clause-from_nowhere : goal.returns-clause-from_nowhere
returns-clause-from_nowhere c lin = from_nowhere-none lin

pub returns-clause-twice_at_once : goal.returns-clause-twice_at_once
returns-clause-twice_at_once c lin = twice_at_once-none lin

pub returns-clause-returns_first : goal.returns-clause-returns_first
returns-clause-returns_first c lin = returns_first-none lin

pub returns-clause-before_stale_take : goal.returns-clause-before_stale_take
returns-clause-before_stale_take c = before_stale_take

pub returns-clause-overlapping : goal.returns-clause-overlapping
returns-clause-overlapping c = overlapping_puts-turned

pub returns-clause-lost : goal.returns-clause-lost
returns-clause-lost c = never_returned-lost

pub returns-clause-lost_late : goal.returns-clause-lost_late
returns-clause-lost_late c = never_returned-late

pub returns-clause-lost_but_seen : goal.returns-clause-lost_but_seen
returns-clause-lost_but_seen c = taken_early-order

pub returns-clause-pending : goal.returns-clause-pending
returns-clause-pending c = swapped_early-order
