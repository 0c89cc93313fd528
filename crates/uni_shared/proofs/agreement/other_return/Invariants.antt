use Rattle.uni_shared.proofs.Vocabulary.{Completed, List, completed_of, completed_of_process, length, map, take, ◌≡◌, ◌≤◌}
use Rattle.uni_shared.proofs.agreement.other_return.Given as goal

abbrev pub invariant-loop-i : goal.invariant-loop-i
invariant-loop-i g l =
    (l.place ≤ length l.receipts)
    × ((calls : List (Completed g.row.O-Resp.Denot)) → l.returns ≡ map (λ c. c.returned) calls → l.counts ≡ map (λ c. c.counts) calls
    → map completed_of (take l.place l.receipts) ≡ completed_of_process l.p (take l.i calls))
