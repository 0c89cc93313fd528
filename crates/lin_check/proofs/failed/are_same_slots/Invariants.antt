use Rattle.std.proofs.Common.{take, ◌≡◌}
use Rattle.lin_check.proofs.failed.are_same_slots.Given as goal

abbrev pub invariant-loop-i : goal.invariant-loop-i
invariant-loop-i l = take l.i l.a ≡ take l.i l.b
