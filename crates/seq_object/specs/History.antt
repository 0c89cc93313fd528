-- What a sequential object does with a list of invocations, the first of them first.
use Rattle.std.specs.Prelude.{map, ◌≡◌, ℕ, List, [], ◌∷◌, Option, Some, None, option_map, slice_get, take, IfSome, refl}
use Rattle.seq_object.specs.Sequential.{Sequential, counter}

-- the state after these invocations
abbrev pub state_after : {S I R : Type 0} → Sequential S I R → S → List I → S
state_after object s [] = s
state_after object s (i ∷ is) = state_after object (object.next s i) is

-- the response to the invocation at a place, from 0; nothing where the list ends before it
abbrev pub response_at : {S I R : Type 0} → Sequential S I R → S → List I → ℕ → Option R
response_at object s is place = option_map (object.answer (state_after object s (take place is))) (slice_get is place)

-- an invocation in a sequential history, with its response where that is known
pub record Call (I R : Type 0) : Type 0 where
  pub inv : I
  pub response : Option R

-- a legal sequential history from a state: each response that it gives is the object's
abbrev pub IsLegal : {S I R : Type 0} → Sequential S I R → S → List (Call I R) → Type 0
IsLegal object s [] = Unit {0}
IsLegal object s (call ∷ calls) =
    IfSome call.response (λ r. r ≡ object.answer s call.inv) × IsLegal object (object.next s call.inv) calls

-- a legal history of the counter, whose second response isn't known
sample_legal : IsLegal counter 0 (record { inv = 5; response = Some 0 } ∷ record { inv = 3; response = None } ∷ [])
sample_legal = (refl, (tt, tt))

-- the same, place by place
abbrev pub IsLegalByPlaces : {S I R : Type 0} → Sequential S I R → S → List (Call I R) → Type 0
IsLegalByPlaces {S} {I} {R} object s calls =
    (place : ℕ) (call : Call I R) (r : R) → slice_get calls place ≡ Some call → call.response ≡ Some r
    → response_at object s (map (λ c. c.inv) calls) place ≡ Some r

-- the counter, called with 5 and then with 3: the sum, and the response at each place
counter-state : state_after counter 0 (5 ∷ 3 ∷ []) ≡ 8
counter-state = refl

counter-first : response_at counter 0 (5 ∷ 3 ∷ []) 0 ≡ Some 0
counter-first = refl

counter-second : response_at counter 0 (5 ∷ 3 ∷ []) 1 ≡ Some 5
counter-second = refl

counter-none : response_at counter 0 (5 ∷ 3 ∷ []) 2 ≡ None
counter-none = refl
