-- When a call can begin.
use Rattle.uni_record.proofs.Vocabulary.{CallId, CanCall, None, Option, Some, WorldOf, arith, calls_in_era, current_none, current_of, false, is_some, true, ℕ, ◌<◌, ◌≡◌, ◌≢◌, ◌≤◌}

-- a process without a pending call, whose calls of the era are fewer than a row's
pub can_call_now : {S I R : Type 0} (w : WorldOf S I R) (row p : ℕ) (o : Option CallId) (count k : ℕ) → p < w.n → o ≡ current_of w p → false ≡ is_some o
    → count ≡ calls_in_era w p → k ≡ row → calls_in_era w p ≤ row → count ≢ k → CanCall w row p
can_call_now w row p None count k inside current none counted row_is room apart =
    (inside, current_none w p current, omega (arith, counted, row_is, room, apart))
can_call_now w row p (Some id) count k inside current none counted row_is room apart = absurd (let f : false ≡ true = none in cc)
