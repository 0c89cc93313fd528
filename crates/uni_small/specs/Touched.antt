-- Which words of a state a call may change.
use Rattle.std.specs.Prelude.{◌≡◌, ◌⊎◌, ℕ, ◌<◌, ◌≤◌, List, length, slice_index}
use Rattle.uni_small.specs.declared.touched.Touched.{Touched}
use Rattle.uni_small.specs.declared.touched.Changes.{Changes}

-- word i isn't touched
abbrev pub IsUntouched : Touched → (i : ℕ) → Type 0
IsUntouched touched i = (touched.head ≤ i) × ((i < touched.from) ⊎ (touched.to ≤ i))

-- two states have the same words but for the touched ones
abbrev pub AreSameOutside : Touched → (state other : List ℕ) → Type 0
AreSameOutside touched state other =
    (i : ℕ) → i < length state → IsUntouched touched i → slice_index other i ≡ slice_index state i

-- all words
abbrev pub everything : Touched
everything = record { head = 18446744073709551615; from = 0; to = 0 }

-- the rows of so many processes, and all words of the state
abbrev pub all_changes : (processes : ℕ) → Changes
all_changes processes = record { calls = record { from = 0; to = processes }; state = everything }
