use Rattle.uni_small.proofs.Vocabulary.{GoesBy, List, Option, Reading, Some, [], stage_of, take, ℕ, ◌++◌, ◌∷◌, ◌≡◌}
use Rattle.uni_small.proofs.log.SmallShared.ask_all.Given as goal

abbrev pub invariant-loop-k : goal.invariant-loop-k
invariant-loop-k g l =
    (l.seat.table_id ≡ l.fn.seat.table_id) × (l.seat.id ≡ l.fn.seat.id)
    × ((copy : List ℕ) (seen : List (Option (List ℕ))) → stage_of l.fn.seat.me ≡ Reading l.tries l.s copy (seen ++ Some [] ∷ [])
    → GoesBy l.fn.seat.me l.k (Reading l.tries l.s copy (seen ++ Some (take l.k l.invocation) ∷ [])) l.seat.me)
