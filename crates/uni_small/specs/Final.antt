-- What closing, a read, and the rule tell: a history that the atomic object accepts, with the calls that seats know.
use Rattle.std.specs.Prelude.{◌≡◌, ℕ, ◌<◌, ◌≤◌, List, [], ◌∷◌, refl, length, map, slice_get, Some, Contains}
use Rattle.seq_object.specs.Sequential.{Sequential}
use Rattle.seq_object.specs.History.{state_after}
use Rattle.uni_model.specs.AtomicObject.{Atomic, Act, Invoked, AcceptsAll, at_start}
use Rattle.uni_model.specs.AtomicObject.Act.{Invoke, Linearize, Respond}
use Rattle.uni_model.specs.Linearizable.{observed, IsLinearizedAs}
use Rattle.uni_model.specs.ProcessCalls.{acts_by, sequential_acts}
use Rattle.uni_small.specs.Image.{sample_counter}
use Rattle.uni_small.specs.View.{Returned, ProcessReturned, plain}
use Rattle.uni_small.specs.Order.{StandsIn}

-- Some history that the atomic object accepts has the known calls, and this state at its end. Any such history will
-- do: it isn't said that it is the one that was made, nor which calls the other processes make in it.
--   accepted, linearized: the object takes its acts, from the start on; so what is observed of it is linearizable
--   state, inside: the state is that after its calls, each of which is one of n processes
--   own: each known process makes its known calls, with their replies, and no others
--   calls_in_version, rising: of the calls, in the order in which they took effect, the first calls_in_version v are in
--     version v, or all where there are fewer; a later version has no fewer
--   stand: each known call comes after those of one version, and is among those of another, as its seat was told
pub record HasHistory (object : Sequential (List ℕ) (List ℕ) (List ℕ)) (n : ℕ) (known : List ProcessReturned) (words : List ℕ) : Type 0 where
  pub acts : List (Act (List ℕ) (List ℕ))
  pub atomic : Atomic (List ℕ) (List ℕ)
  pub accepted : AcceptsAll object (at_start object.initial) acts atomic
  pub linearized : IsLinearizedAs object object.initial (observed acts) atomic.agreed
  pub state : state_after object object.initial (map (λ c. c.inv) atomic.agreed) ≡ words
  pub inside : (c : Invoked (List ℕ)) → Contains atomic.agreed c → c.process < n
  pub own : (its : ProcessReturned) → Contains known its
      → acts_by its.process acts ≡ sequential_acts its.process 0 (map plain its.calls)
  pub calls_in_version : ℕ → ℕ
  pub rising : (v w : ℕ) → v ≤ w → calls_in_version v ≤ calls_in_version w
  pub stand : (its : ProcessReturned) → Contains known its
      → (k : ℕ) (call : Returned) → slice_get its.calls k ≡ Some call
      → StandsIn object atomic.agreed calls_in_version its.process k call

-- A version has this state: there is such a history, and all its calls that took effect are in the version. The history
-- and which of its calls are in which version are chosen here: two reads, or a read and a closing, need not have the
-- same.
pub record IsVersion (object : Sequential (List ℕ) (List ℕ) (List ℕ)) (n : ℕ) (known : List ProcessReturned) (version : ℕ)
    (state : List ℕ) : Type 0 where
  pub history : HasHistory object n known state
  pub all_in : history.calls_in_version version ≡ length history.atomic.agreed

-- This is what the object would answer to an invocation at such a version.
abbrev pub IsAnswerAt : (object : Sequential (List ℕ) (List ℕ) (List ℕ)) (n : ℕ) (known : List ProcessReturned) (version : ℕ) (inv reply : List ℕ) → Type 0
IsAnswerAt object n known version inv reply =
    (state : List ℕ) × IsVersion object n known version state × (reply ≡ object.answer state inv)

-- two processes that overlap, on a counter: both have begun before a call takes effect, and one exchange brings both in
abbrev overlapping : List (Act (List ℕ) (List ℕ))
overlapping =
    Invoke 0 0 (5 ∷ []) ∷ Invoke 1 0 (3 ∷ [])
    ∷ Linearize (record { process = 0; nth = 0; inv = 5 ∷ [] }) ∷ Linearize (record { process = 1; nth = 0; inv = 3 ∷ [] })
    ∷ Respond 1 0 (5 ∷ []) ∷ Respond 0 0 (0 ∷ []) ∷ []

sample_first : acts_by 0 overlapping ≡ sequential_acts 0 0 (map plain (record { inv = 5 ∷ []; reply = 0 ∷ []; after = 0; version = 1 } ∷ []))
sample_first = refl

sample_second : acts_by 1 overlapping ≡ sequential_acts 1 0 (map plain (record { inv = 3 ∷ []; reply = 5 ∷ []; after = 0; version = 1 } ∷ []))
sample_second = refl

sample_state : state_after sample_counter sample_counter.initial ((5 ∷ []) ∷ (3 ∷ []) ∷ []) ≡ 8 ∷ []
sample_state = refl
