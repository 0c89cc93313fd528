-- What a run of the construction is as a history of the atomic object.
use Rattle.std.specs.Prelude.{◌≡◌, ℕ, ◌+◌, List, [], ◌∷◌, ◌++◌, Option, None, Some, map, drop, length}
use Rattle.std.specs.Prelude.{option_and_then}
use Rattle.std.specs.Option.{option_map_or}
use Rattle.seq_object.specs.Sequential.{Sequential}
use Rattle.seq_object.specs.History.{Call as Answered}
use Rattle.uni_model.specs.Places.{Name, Memory, seq_of, new_of}
use Rattle.uni_model.specs.Places.Name.{Anchor}
use Rattle.uni_model.specs.Stages.{Pending}
use Rattle.uni_model.specs.Chain.{Entry, entries_from, invoked_at}
use Rattle.uni_model.specs.Transition.{response_after}
use Rattle.uni_model.specs.Worlds.{WorldOf, Event, chain, world_after, world_after_all}
use Rattle.uni_model.specs.Worlds.Event.{Call, Step, Trim, Reshape}
use Rattle.uni_model.specs.AtomicObject.{Atomic, Act, Invoked}
use Rattle.uni_model.specs.AtomicObject.Act.{Invoke, Linearize, Respond}

-- the entries of the present era, numbered after the anchor
abbrev pub log : {S I R : Type 0} → WorldOf S I R → List (Entry I R)
log w = entries_from w.memory (seq_of w.memory Anchor + 1) (chain w)

-- the calls of the present era, in the order in which they took effect
abbrev pub calls_of : {S I R : Type 0} → WorldOf S I R → List (Invoked I)
calls_of w = map (λ e. e.call) (log w)

-- what they ask for
abbrev pub invocations_of : {S I R : Type 0} → WorldOf S I R → List I
invocations_of w = map (λ c. c.inv) (calls_of w)

-- an entry as a call of a sequential history
abbrev pub logged_call : {I R : Type 0} → Entry I R → Answered I R
logged_call e = record { inv = e.call.inv; response = e.response }

-- the entries of all eras of a run from w
abbrev pub log_of_run : {S I R : Type 0} → Sequential S I R → WorldOf S I R → List (Event I) → List (Entry I R)
log_of_run object w [] = log w
log_of_run object w (Trim ∷ es) = log w ++ log_of_run object (world_after object w Trim) es
log_of_run object w (Reshape n ∷ es) = log w ++ log_of_run object (world_after object w (Reshape n)) es
log_of_run object w (e ∷ es) = log_of_run object (world_after object w e) es

-- the open call of a process
abbrev pub open_at : {S I R : Type 0} → Memory S I R → Option Pending → Option (Invoked I)
open_at m call = option_and_then (λ c. invoked_at m c.mine) call

-- the world shows this atomic object
pub record Shows {S I R : Type 0} (w : WorldOf S I R) (a : Atomic S I) : Type 0 where
  pub start : new_of w.memory Anchor ≡ Some (a.start, None)
  pub agreed : calls_of w ≡ a.agreed
  pub open_call : (p : ℕ) → open_at w.memory (w.call p) ≡ a.open_call p
  pub next_nth : (p : ℕ) → w.begun p ≡ a.next_nth p

-- the call of a cell ends with this response, if with any
abbrev pub responses_of : {S I R : Type 0} → Memory S I R → (p : ℕ) → (mine : Name) → Option R → List (Act I R)
responses_of m p mine None = []
responses_of m p mine (Some r) = option_map_or (λ c. Respond p c.nth r ∷ []) (invoked_at m mine) []

-- the response of the next step of a process as an act, where it is the last one of its call
abbrev pub responses_by : {S I R : Type 0} → WorldOf S I R → ℕ → List (Act I R)
responses_by w p = option_map_or (λ call. responses_of w.memory p call.mine (response_after call.mine call.stage w.memory)) (w.call p) []

-- the acts of an event: a call is invoked; what the chain has more takes effect; a call whose last step it is responds
abbrev pub acts_of : {S I R : Type 0} → Sequential S I R → WorldOf S I R → Event I → List (Act I R)
acts_of object w (Call p i) = Invoke p (w.begun p) i ∷ []
acts_of object w (Step p) = map Linearize (drop (length (calls_of w)) (calls_of (world_after object w (Step p)))) ++ responses_by w p
acts_of object w Trim = []
acts_of object w (Reshape n) = []

-- the acts of a run
abbrev pub history_of : {S I R : Type 0} → Sequential S I R → WorldOf S I R → List (Event I) → List (Act I R)
history_of object w [] = []
history_of object w (e ∷ es) = acts_of object w e ++ history_of object (world_after object w e) es

-- A run from w shows this atomic object, from a state on: its calls are those of all eras, and its open calls and next numbers
-- are those of the last world.
pub record RunShows {S I R : Type 0} (object : Sequential S I R) (s : S) (w : WorldOf S I R) (events : List (Event I))
    (a : Atomic S I) : Type 0 where
  pub start : a.start ≡ s
  pub agreed : map (λ e. e.call) (log_of_run object w events) ≡ a.agreed
  pub open_call : (p : ℕ) → open_at (world_after_all object w events).memory ((world_after_all object w events).call p)
      ≡ a.open_call p
  pub next_nth : (p : ℕ) → (world_after_all object w events).begun p ≡ a.next_nth p
