-- Objects that are made of parts, as a map of its keys, and what a history shows of one part.
use Rattle.std.specs.Prelude.{◌≡◌, ◌↔◌, ◌==◌, ℕ, if◌then◌else◌, List, [], ◌∷◌, filter, map, refl, slice_index_or, slice_set}
use Rattle.std.proofs.Common.{ap, sym}
use Rattle.seq_object.specs.Sequential.{Sequential, counter}
use Rattle.seq_object.specs.History.{state_after}
use Rattle.uni_model.specs.AtomicObject.{set_at}
use Rattle.uni_model.specs.HerlihyWing.{IsWellFormed}
use Rattle.lin_check.specs.declared.event.Event.{Event}
use Rattle.lin_check.specs.declared.event.Event.TheVariants.{Call, Return}
use Rattle.lin_check.specs.Histories.{acts_of}
use Rattle.lin_check.specs.Verdicts.{IsLinearizable}

-- An object is made of parts, where each invocation is of one: what a call is answered follows from the calls before it that are of its part.
abbrev pub IsInParts : {S I R : Type 0} → Sequential S I R → (part : I → ℕ) → Type 0
IsInParts {S} {I} {R} object part = (calls : List I) (i : I) → object.answer (state_after object object.initial calls) i
    ≡ object.answer (state_after object object.initial (filter (λ j. part j == part i) calls)) i

-- an object of one part is made of it
pub in_one_part : {S I R : Type 0} (object : Sequential S I R) → IsInParts object (λ i. 0)
in_one_part {S} {I} {R} object calls i = ap (λ (is : List I). object.answer (state_after object object.initial is) i) (sym (all_of calls)) where
  all_of : (is : List I) → filter (λ j. 0 == 0) is ≡ is
  all_of [] = refl
  all_of (j ∷ is) = ap (λ js. j ∷ js) (all_of is)

-- the events of part x: its calls, and the returns of processes whose last call is of it, where latest is the part of each one's last call
abbrev pub events_of_part : {I R : Type 0} → (part : I → ℕ) → (x : ℕ) → (latest : ℕ → ℕ) → List (Event I R) → List (Event I R)
events_of_part part x latest [] = []
events_of_part part x latest (Call p i ∷ events) =
    if part i == x then Call p i ∷ events_of_part part x (set_at latest p (part i)) events
    else events_of_part part x (set_at latest p (part i)) events
events_of_part part x latest (Return p r ∷ events) =
    if latest p == x then Return p r ∷ events_of_part part x latest events else events_of_part part x latest events

-- the history of part x, in which a return of a process that hasn't called counts for part 0; a well-formed history has none
abbrev pub part_of : {I R : Type 0} → (part : I → ℕ) → (x : ℕ) → List (Event I R) → List (Event I R)
part_of part x history = events_of_part part x (λ p. 0) history

-- the part of an event, and that of each process's last call after it, where latest has them before
abbrev pub part_in : {I R : Type 0} → (part : I → ℕ) → Event I R → List ℕ → ℕ
part_in part (Call p i) latest = part i
part_in part (Return p r) latest = slice_index_or latest p 0

abbrev pub parts_after : {I R : Type 0} → (part : I → ℕ) → Event I R → List ℕ → List ℕ
parts_after part (Call p i) latest = slice_set latest p (part i)
parts_after part (Return p r) latest = latest

-- a well-formed history is linearizable exactly where the history of each part is
abbrev pub IsPartByPart : {S I R : Type 0} → Sequential S I R → (part : I → ℕ) → List (Event I R) → Type 0
IsPartByPart object part history = IsWellFormed (acts_of history)
    → ((x : ℕ) → IsLinearizable object (part_of part x history)) ↔ IsLinearizable object history

-- two processes call two parts, which are the numbers that they call with: 1 calls 5, 0 calls 3, both return, and 1 calls 3
abbrev sample : List (Event ℕ ℕ)
sample = Call 1 5 ∷ Call 0 3 ∷ Return 1 7 ∷ Return 0 8 ∷ Call 1 3 ∷ []

sample-parts : map (λ x. part_of (λ i. i) x sample) (5 ∷ 3 ∷ 4 ∷ [])
    ≡ (Call 1 5 ∷ Return 1 7 ∷ []) ∷ (Call 0 3 ∷ Return 0 8 ∷ Call 1 3 ∷ []) ∷ [] ∷ []
sample-parts = refl

-- a counter is one part; two that are told apart by the number that is added are none, since the sum is of both
one_counter : state_after counter counter.initial (filter (λ i. 0 == 0) (5 ∷ 3 ∷ [])) ≡ 8
one_counter = refl

not_two_counters : map (λ x. state_after counter counter.initial (filter (λ i. i == x) (5 ∷ 3 ∷ []))) (5 ∷ 3 ∷ []) ≡ 5 ∷ 3 ∷ []
not_two_counters = refl
