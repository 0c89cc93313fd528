use Rattle.std.proofs.Common.{◌≡◌, drop}
use Rattle.judged_objects.specs.Map.{value_at}
use Rattle.judged_objects.proofs.entries.value_at.Given as goal

-- the entries so far have other keys
abbrev pub invariant-loop-entry : goal.invariant-loop-entry
invariant-loop-entry l = value_at (drop l.entry-index l.entries) l.key ≡ value_at l.entries l.key
