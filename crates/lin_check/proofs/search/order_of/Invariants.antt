use Rattle.std.proofs.Common.{map, take, ◌≡◌}
use Rattle.lin_check.proofs.search.order_of.Given as goal

abbrev pub invariant-loop-frame : goal.invariant-loop-frame
invariant-loop-frame g l = l.order.items ≡ map (λ frame. frame.call) (take l.frame-index l.stack)
