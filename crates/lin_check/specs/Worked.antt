-- Worked histories: which order of calls they have, if any.
use Rattle.std.specs.Prelude.{◌++◌, ℕ, List, [], ◌∷◌, Option, Some, None, map}
use Rattle.seq_object.specs.Sequential.{Sequential}
use Rattle.lin_check.specs.declared.event.Event.{Event}
use Rattle.lin_check.specs.declared.event.Event.TheVariants.{Call, Return}
use Rattle.lin_check.specs.Parts.{part_of}

-- a queue of numbers: one is put in, or the first is taken
pub data Asked : Type 0 where
  Put : ℕ → Asked
  Take : Asked

abbrev pub numbers_after : List ℕ → Asked → List ℕ
numbers_after numbers (Put v) = numbers ++ v ∷ []
numbers_after [] Take = []
numbers_after (v ∷ numbers) Take = numbers

-- the number that was taken, if any
abbrev pub taken : List ℕ → Asked → Option ℕ
taken numbers (Put v) = None
taken [] Take = None
taken (v ∷ numbers) Take = Some v

abbrev pub line : Sequential (List ℕ) Asked (Option ℕ)
line = record { initial = []; next = numbers_after; answer = taken }

-- 5 is put in before 6, and 6 is taken first
abbrev pub stale_take : List (Event Asked (Option ℕ))
stale_take = Call 0 (Put 5) ∷ Return 0 None ∷ Call 0 (Put 6) ∷ Return 0 None ∷ Call 1 Take ∷ Return 1 (Some 6) ∷ []

-- the same, but 5 and 6 are put in by calls that overlap
abbrev pub overlapping_puts : List (Event Asked (Option ℕ))
overlapping_puts = Call 0 (Put 5) ∷ Call 1 (Put 6) ∷ Return 0 None ∷ Return 1 None ∷ Call 0 Take ∷ Return 0 (Some 6) ∷ []

-- the call that puts 5 in never returns, and the queue is found empty
abbrev pub never_returned : List (Event Asked (Option ℕ))
never_returned = Call 0 (Put 5) ∷ Call 1 Take ∷ Return 1 None ∷ []

-- the call that puts 5 in never returns, and 5 is taken
abbrev pub taken_early : List (Event Asked (Option ℕ))
taken_early = Call 0 (Put 5) ∷ Call 1 Take ∷ Return 1 (Some 5) ∷ []

-- and is taken once more
abbrev pub taken_twice : List (Event Asked (Option ℕ))
taken_twice = taken_early ++ Call 1 Take ∷ Return 1 (Some 5) ∷ []

-- a register that answers the number before: process 1 is answered what process 0 writes, whose call has not returned
abbrev pub swapped_early : List (Event ℕ ℕ)
swapped_early = Call 0 5 ∷ Call 1 7 ∷ Return 1 5 ∷ []

-- nobody writes it
abbrev pub from_nowhere : List (Event ℕ ℕ)
from_nowhere = Call 1 7 ∷ Return 1 5 ∷ []

-- a process calls twice at once, and one returns without a call
abbrev pub twice_at_once : List (Event ℕ ℕ)
twice_at_once = Call 0 5 ∷ Call 0 7 ∷ []

abbrev pub returns_first : List (Event ℕ ℕ)
returns_first = Return 0 5 ∷ []

-- process 1 calls part 5, process 0 part 3, both return, and 1 calls part 3: a part is the number that is called with
abbrev pub of_two_parts : List (Event ℕ ℕ)
of_two_parts = Call 1 5 ∷ Call 0 3 ∷ Return 1 7 ∷ Return 0 8 ∷ Call 1 3 ∷ []

abbrev pub parts_of_it : List (List (Event ℕ ℕ))
parts_of_it = map (λ x. part_of (λ i. i) x of_two_parts) (5 ∷ 3 ∷ 4 ∷ [])
