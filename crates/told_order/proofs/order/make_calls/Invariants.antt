use Rattle.std.proofs.Common.{map, ◌≡◌}
use Rattle.told_order.proofs.Underway.{IsUnderway}
use Rattle.told_order.proofs.order.make_calls.Given as goal

-- the calls of the places so far were made, on the same object
abbrev pub invariant-loop-place : goal.invariant-loop-place
invariant-loop-place g l = record {
  underway : IsUnderway (g.M.Replaying.object l.fn.replaying) g.M.Replaying.asks g.M.Replaying.tells (map (λ own. own.items) l.lists) l.made l.place (g.M.Replaying.state l.replaying);
  ready : g.M.Replaying.IsReady l.replaying;
  object : g.M.Replaying.object l.replaying ≡ g.M.Replaying.object l.fn.replaying;
}
