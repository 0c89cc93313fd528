-- Recorded histories: the calls and returns of processes, in the order in which they were seen.
use Rattle.std.specs.Prelude.{◌≡◌, ℕ, ◌+◌, ◌-◌, ◌<◌, ◌==◌, if◌then◌else◌, List, [], ◌∷◌, Option, Some, None, slice_index_or, slice_set, refl}
use Rattle.std.specs.List.{All}
use Rattle.uni_model.specs.AtomicObject.{Act, set_at}
use Rattle.uni_model.specs.AtomicObject.Act.{Invoke, Respond}
use Rattle.lin_check.specs.declared.event.Event.{Event}
use Rattle.lin_check.specs.declared.event.Event.TheVariants.{Call, Return}

-- the process of an event
abbrev pub process_of : {I R : Type 0} → Event I R → ℕ
process_of (Call p i) = p
process_of (Return p r) = p

-- all processes are below n
abbrev pub IsWithin : {I R : Type 0} → (n : ℕ) → List (Event I R) → Type 0
IsWithin n history = All (λ event. process_of event < n) history

-- the events as acts: the calls of each process are numbered, where next is the number of its next one
abbrev pub numbered : {I R : Type 0} → (next : ℕ → ℕ) → List (Event I R) → List (Act I R)
numbered next [] = []
numbered next (Call p i ∷ events) = Invoke p (next p) i ∷ numbered (set_at next p (next p + 1)) events
numbered next (Return p r ∷ events) = Respond p (next p - 1) r ∷ numbered next events

-- a recorded history as one of acts: the calls of each process are numbered from 0
abbrev pub acts_of : {I R : Type 0} → List (Event I R) → List (Act I R)
acts_of history = numbered (λ p. 0) history

-- the response of the next return of a process
abbrev pub next_return : {I R : Type 0} → ℕ → List (Event I R) → Option R
next_return p [] = None
next_return p (Call q i ∷ events) = next_return p events
next_return p (Return q r ∷ events) = if q == p then Some r else next_return p events

-- for each call the response of its process's next return; for a return, none
abbrev pub replies_of : {I R : Type 0} → List (Event I R) → List (Option R)
replies_of [] = []
replies_of (Call p i ∷ events) = next_return p events ∷ replies_of events
replies_of (Return p r ∷ events) = None ∷ replies_of events

-- the same going back: an event's entry, and the response of the next return of each process
abbrev pub reply_in : {I R : Type 0} → Event I R → List (Option R) → Option R
reply_in (Call p i) latest = slice_index_or latest p None
reply_in (Return p r) latest = None

abbrev pub latest_after : {I R : Type 0} → Event I R → List (Option R) → List (Option R)
latest_after (Call p i) latest = latest
latest_after (Return p r) latest = slice_set latest p (Some r)

-- two processes: 1 calls, 0 calls, 1 returns and calls again
abbrev sample : List (Event ℕ ℕ)
sample = Call 1 5 ∷ Call 0 3 ∷ Return 1 7 ∷ Call 1 4 ∷ []

sample-acts_of : acts_of sample ≡ Invoke 1 0 5 ∷ Invoke 0 0 3 ∷ Respond 1 0 7 ∷ Invoke 1 1 4 ∷ []
sample-acts_of = refl

sample-replies_of : replies_of sample ≡ Some 7 ∷ None ∷ None ∷ None ∷ []
sample-replies_of = refl
