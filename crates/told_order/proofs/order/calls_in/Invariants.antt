use Rattle.told_order.proofs.Vocabulary.{sum_by, take, vec_len, ◌≡◌}
use Rattle.told_order.proofs.order.calls_in.Given as goal

abbrev pub invariant-loop-own : goal.invariant-loop-own
invariant-loop-own g l = l.calls ≡ sum_by vec_len (take l.own-index l.lists)
