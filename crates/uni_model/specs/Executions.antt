-- Executions of a machine: processes that take its steps in any order, as plain data.
use Rattle.std.specs.Prelude.{◌≡◌, ℕ, ◌+◌, ◌<◌, ◌==◌, List, [], ◌∷◌, ◌++◌, if◌then◌else◌, refl}
use Rattle.seq_object.specs.Sequential.{Sequential}
use Rattle.uni_model.specs.AtomicObject.{AcceptsAll, Act, Atomic, at_start, points}
use Rattle.uni_model.specs.HerlihyWing.{IsLinearizedByCompletion, IsWellFormed}
use Rattle.uni_model.specs.Linearizable.{observed}

-- A machine of n processes: the steps that process p can take at a moment, and the moment after one.
module _ {M : Type 0} (n : ℕ) (Step : (m : M) (p : ℕ) → Type 0) (after : (m : M) (p : ℕ) → Step m p → M) where
  -- An execution from a moment on: again and again some process takes a step that it can take.
  pub data Execution : M → Type 0 where
    Ends : {m : M} → Execution m
    Takes : {m : M} (p : ℕ) → p < n → (step : Step m p) → Execution (after m p step) → Execution m

  -- the moment at its end
  abbrev pub last_moment : {m : M} → Execution m → M
  last_moment {m = m} Ends = m
  last_moment (Takes p inside step rest) = last_moment rest

  -- one that goes on
  abbrev pub goes_on : {m : M} (e : Execution m) → Execution (last_moment e) → Execution m
  goes_on Ends more = more
  goes_on (Takes p inside step rest) more = Takes p inside step (goes_on rest more)

  -- the acts that its steps make, in the order of the steps
  abbrev pub all_acts : {A : Type 0} → (acts : (m : M) (p : ℕ) → Step m p → List A) → {m : M} → Execution m → List A
  all_acts acts Ends = []
  all_acts acts (Takes {m = m} p inside step rest) = acts m p step ++ all_acts acts rest

  -- The order in which calls took effect only grows where an execution goes on. That is so of any acts, by how `all_acts`
  -- is made; the weight lies on `IsLinearizedAtSteps`, which says that this same order linearizes each execution. Both
  -- together are strong linearizability (Golab, Higham and Woelfel 2011).
  abbrev pub KeepsOrder : {I R : Type 0} → (acts : (m : M) (p : ℕ) → Step m p → List (Act I R)) → {m : M} (e : Execution m)
      → Execution (last_moment e) → Type 0
  KeepsOrder acts e more = points (all_acts acts (goes_on e more)) ≡ points (all_acts acts e) ++ points (all_acts acts more)

  -- how many steps process p has taken for its latest call at the end, where it had taken so many before
  abbrev pub steps_of_call : (counted : (m : M) (p : ℕ) → Step m p → ℕ → ℕ) → (p taken : ℕ) → {m : M} → Execution m → ℕ
  steps_of_call counted p taken Ends = taken
  steps_of_call counted p taken (Takes {m = m} q inside step rest) =
      steps_of_call counted p (if p == q then counted m q step taken else taken) rest

module _ {S I R : Type 0} (object : Sequential S I R) where
  -- The atomic object takes these acts as they stand: so no call takes effect twice, each that has returned has taken
  -- effect at a step from the one that invokes it to the one that responds, and its reply is the object's at its place.
  -- And what is observed, the invocations and the replies alone, is linearizable in that order in the words of Herlihy
  -- and Wing: with the order of real time.
  pub record IsLinearizedAtSteps (acts : List (Act I R)) : Type 0 where
    pub atomic : Atomic S I
    pub accepted : AcceptsAll object (at_start object.initial) acts atomic
    pub agreed : atomic.agreed ≡ points acts
    pub well_formed : IsWellFormed (observed acts)
    pub completed : IsLinearizedByCompletion object object.initial (observed acts) (points acts)

-- a machine of two processes that count: a step of process p adds p + 1, and makes p an act
abbrev Counts : (m p : ℕ) → Type 0
Counts m p = Unit {0}

abbrev counts_on : (m p : ℕ) → Counts m p → ℕ
counts_on m p step = m + p + 1

-- from 5 on both take a step, the second process first
abbrev sample : 0 < 2 → 1 < 2 → Execution 2 Counts counts_on 5
sample first second = Takes 1 second tt (Takes 0 first tt Ends)

sample_moment : (first : 0 < 2) (second : 1 < 2) → last_moment 2 Counts counts_on (sample first second) ≡ 8
sample_moment first second = refl

sample_all_acts : (first : 0 < 2) (second : 1 < 2)
    → all_acts 2 Counts counts_on (λ m p step. p ∷ []) (sample first second) ≡ 1 ∷ 0 ∷ []
sample_all_acts first second = refl

-- the first process had taken five steps before
sample_steps : (first : 0 < 2) (second : 1 < 2)
    → steps_of_call 2 Counts counts_on (λ m p step taken. taken + 1) 0 5 (sample first second) ≡ 6
sample_steps first second = refl
