use Rattle.uni_shared.proofs.Vocabulary.{filter_map, invocation_by, length, map, take, ◌++◌, ◌≡◌, ◌≤◌}
use Rattle.uni_shared.proofs.agreement.other_invocation.Given as goal

-- the receipts so far and the calls that are still to come are all calls
abbrev pub invariant-loop-event : goal.invariant-loop-event
invariant-loop-event g l = (l.place ≤ length l.receipts)
    × (map (λ r. r.inv) (take l.place l.receipts) ++ filter_map (invocation_by l.p) l.event-iterator ≡ filter_map (invocation_by l.p) l.fn.events)
