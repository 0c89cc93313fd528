-- What calls are compared with: an order of all of them, in which an object that makes them one after another answers as they were answered.
use Rattle.std.specs.Prelude.{◌≡◌, ◌≢◌, ◌⊎◌, ◌==◌, ◌<◌, ℕ, List, [], ◌∷◌, Option, Some, None, if◌then◌else◌, option_and_then, map, length, take, slice_get, slice_index, refl}
use Rattle.seq_object.specs.Sequential.{Sequential, counter}
use Rattle.seq_object.specs.History.{state_after}
use Rattle.seq_object.specs.declared.call_id.CallId.{CallId}
use Rattle.told_order.specs.declared.in_place.InPlace.{InPlace}

-- an invocation is asked for as it is, and a response is told so
abbrev pub itself : {A : Type 0} → A → A
itself a = a

-- the next call of a process, where so many of each list were made
abbrev pub next_of : {A : Type 0} → (lists : List (List A)) (made : List ℕ) (p : ℕ) → Option A
next_of lists made p = option_and_then (λ own. slice_get own (slice_index made p)) (slice_get lists p)

-- no process's next call was told this place
abbrev pub NoneTellsPlace : {C R : Type 0} → (lists : List (List (C × InPlace R))) (made : List ℕ) (place : ℕ) → Type 0
NoneTellsPlace {C} {R} lists made place = (p : ℕ) (call : C × InPlace R) → next_of lists made p ≡ Some call → call.1.place ≢ place

-- a call in an order: its process, and what it asked with what it was told
pub record Made (C R : Type 0) : Type 0 where
  pub process : ℕ
  pub call : C × InPlace R

-- the calls of a process in an order
abbrev pub calls_by : {C R : Type 0} → (p : ℕ) → List (Made C R) → List (C × InPlace R)
calls_by p [] = []
calls_by p (m ∷ order) = if m.process == p then m.call ∷ calls_by p order else calls_by p order

-- the invocations that the calls are
abbrev pub asked_in : {I C R : Type 0} → (asks : C → I) → List (Made C R) → List I
asked_in {I} {C} {R} asks order = map (λ (m : Made C R). asks m.call.0) order

-- a call asks for an invocation of the object, and a reply tells one of its responses
module _ {S I A C R : Type 0} (object : Sequential S I A) (asks : C → I) (tells : R → A) where
  -- each call was told the object's reply, from this state on
  abbrev pub AreAnswered : S → List (Made C R) → Type 0
  AreAnswered state [] = Unit {0}
  AreAnswered state (m ∷ order) =
      (tells m.call.1.reply ≡ object.answer state (asks m.call.0)) × AreAnswered (object.next state (asks m.call.0)) order

  module _ (lists : List (List (C × InPlace R))) where
    -- each call was told its place in the order, and is of one of the lists
    abbrev pub ArePlaced : List (Made C R) → Type 0
    ArePlaced order = (k : ℕ) (m : Made C R) → slice_get order k ≡ Some m → (m.call.1.place ≡ k) × (m.process < length lists)

    -- the calls of all lists, in the order of their places, were told the object's replies, and lead to this state
    pub record IsReplayed (last : S) : Type 0 where
      pub order : List (Made C R)
      pub answered : AreAnswered object.initial order
      pub placed : ArePlaced order
      pub calls : (p : ℕ) (own : List (C × InPlace R)) → slice_get lists p ≡ Some own → calls_by p order ≡ own
      pub state : state_after object object.initial (asked_in asks order) ≡ last

    -- the first so many calls of each list do
    pub record IsBegun (made : List ℕ) (order : List (Made C R)) (reached : S) : Type 0 where
      pub answered : AreAnswered object.initial order
      pub placed : ArePlaced order
      pub calls : (p : ℕ) (own : List (C × InPlace R)) → slice_get lists p ≡ Some own → calls_by p order ≡ take (slice_index made p) own
      pub state : state_after object object.initial (asked_in asks order) ≡ reached

    -- The call that comes next of its process, where the first so many calls of each list were made. It wasn't told the object's reply, or
    -- no call that comes next was told the next place.
    pub record IsFirstDifference (call : CallId) : Type 0 where
      pub made : List ℕ
      pub order : List (Made C R)
      pub before : S
      pub begun : IsBegun made order before
      pub nth : call.nth ≡ slice_index made call.process
      pub own : C × InPlace R
      pub next : next_of lists made call.process ≡ Some own
      pub differs : (tells own.1.reply ≢ object.answer before (asks own.0)) ⊎ NoneTellsPlace lists made (length order)

-- Two processes on a counter. The second has made its first call, 5; the next call is the first one's, 3, which was told place 1 and the sum 5
abbrev sample_first : ℕ × InPlace ℕ
sample_first = (3, record { place = 1; reply = 5 })

abbrev sample_second : ℕ × InPlace ℕ
sample_second = (5, record { place = 0; reply = 0 })

sample_next : map (next_of ((sample_first ∷ []) ∷ (sample_second ∷ []) ∷ []) (0 ∷ 1 ∷ [])) (0 ∷ 1 ∷ 2 ∷ []) ≡ Some sample_first ∷ None ∷ None ∷ []
sample_next = refl

sample_answered : AreAnswered counter itself itself 0
    (record { process = 1; call = sample_second } ∷ record { process = 0; call = sample_first } ∷ [])
sample_answered = (refl, (refl, tt))
