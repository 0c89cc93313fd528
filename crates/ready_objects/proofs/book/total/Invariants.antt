use Rattle.ready_objects.proofs.Vocabulary.{sum, take, ◌*◌, ◌≡◌, ◌≤◌}
use Rattle.ready_objects.proofs.book.total.Given as goal

abbrev pub invariant-loop-balance : goal.invariant-loop-balance
invariant-loop-balance l = (l.total ≡ sum (take l.balance-index l.balances)) × (l.total ≤ l.balance-index * 999999999999)
