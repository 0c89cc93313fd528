-- What closing, a read, and the rule tell: a history that the atomic object accepts, with the calls that seats know.
use Rattle.std.specs.Prelude.{◌≡◌, ℕ, ◌<◌, ◌≤◌, ◌==◌, List, [], ◌∷◌, ◌++◌, Option, None, Some}
use Rattle.std.specs.Prelude.{Contains, count_by, length, map, refl, slice_get}
use Rattle.seq_object.specs.Sequential.{Sequential}
use Rattle.seq_object.specs.History.{state_after}
use Rattle.uni_model.specs.AtomicObject.{AcceptsAll, Act, Atomic, Invoked, at_start}
use Rattle.uni_model.specs.AtomicObject.Act.{Invoke}
use Rattle.uni_model.specs.HerlihyWing.{IsLinearizedByCompletion}
use Rattle.uni_model.specs.Linearizable.{observed}
use Rattle.uni_model.specs.ProcessCalls.{acts_by, sequential_acts}
use Rattle.uni_any.specs.Batch.{inv_of, plain}
use Rattle.uni_any.specs.Content.{applied_in}
use Rattle.uni_any.specs.Order.{StandsIn}
use Rattle.uni_any.specs.declared.view.Image.{Image}
use Rattle.uni_any.specs.declared.view.Returned.{Returned}

-- the acts of a process with these calls, each with its reply before the next one begins, and with this pending one
abbrev pub acts_told : {I R : Type 0} → (p : ℕ) → List (Returned I R) → Option I → List (Act I R)
acts_told p own None = sequential_acts p 0 (map plain own)
acts_told p own (Some inv) = sequential_acts p 0 (map plain own) ++ Invoke p (length own) inv ∷ []

-- the calls of one process: those that have returned, in their order, and the invocation of its pending one
pub record KnownCalls (I R : Type 0) : Type 0 where
  pub process : ℕ
  pub own : List (Returned I R)
  pub pending : Option I

-- Some history that the atomic object accepts has the known calls, and this state at its end. Any such history will
-- do: it isn't said that it is the one that was made, nor which calls the other processes make in it.
--   accepted, completed: the object takes its acts, from the start on; so what is observed of it is linearizable
--   state_is, inside: the state is that after its calls, each of which is one of n processes
--   own_is: each known process makes its known calls, with their replies, and its pending one, and no others
--   calls_in_version, rising: of the calls, in the order in which they took effect, the first calls_in_version v are in
--     version v, or all where there are fewer; a later version has no fewer
--   stand: each known call that has returned comes after those of one version, and is among those of another, as its
--     seat was told
pub record HasHistory {S I R : Type 0} (object : Sequential S I R) (n : ℕ) (known : List (KnownCalls I R))
    (state : S) : Type 0 where
  pub acts : List (Act I R)
  pub atomic : Atomic S I
  pub accepted : AcceptsAll object (at_start object.initial) acts atomic
  pub completed : IsLinearizedByCompletion object object.initial (observed acts) atomic.agreed
  pub state_is : state_after object object.initial (map inv_of atomic.agreed) ≡ state
  pub inside : (c : Invoked I) → Contains atomic.agreed c → c.process < n
  pub own_is : (its : KnownCalls I R) → Contains known its
      → acts_by its.process acts ≡ acts_told its.process its.own its.pending
  pub calls_in_version : ℕ → ℕ
  pub rising : (v w : ℕ) → v ≤ w → calls_in_version v ≤ calls_in_version w
  pub stand : (its : KnownCalls I R) → Contains known its
      → (k : ℕ) (call : Returned I R) → slice_get its.own k ≡ Some call
      → StandsIn object atomic.agreed calls_in_version its.process k call

-- how many calls of process q are among these
abbrev pub calls_among : {I : Type 0} → (q : ℕ) → List (Invoked I) → ℕ
calls_among q calls = count_by (λ c. c.process == q) calls

-- A version has the state after such a history, and its rows say how many calls of each process took effect in it.
pub record IsKnownVersion {S I R : Type 0} (object : Sequential S I R) (n : ℕ) (known : List (KnownCalls I R))
    (version : Image S R) : Type 0 where
  pub history : HasHistory object n known version.state
  pub rows : (q : ℕ) → q < n → applied_in version q ≡ calls_among q history.atomic.agreed

-- of three calls two are those of process 1, and none is one of process 0
abbrev sample_call : (p k : ℕ) → Invoked ℕ
sample_call p k = record { process = p; nth = k; inv = 5 }

sample_among : calls_among 1 (sample_call 1 0 ∷ sample_call 2 0 ∷ sample_call 1 1 ∷ [])
    ∷ calls_among 0 (sample_call 1 0 ∷ sample_call 2 0 ∷ []) ∷ [] ≡ 2 ∷ 0 ∷ []
sample_among = refl
