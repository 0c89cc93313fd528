-- The calls of one process, as it sees them: what it asked, and what it was answered.
use Rattle.std.specs.Prelude.{◌≡◌, ℕ, ◌+◌, List, [], ◌∷◌, refl}
use Rattle.uni_model.specs.AtomicObject.{Act}
use Rattle.uni_model.specs.AtomicObject.Act.{Invoke, Linearize, Respond}
use Rattle.uni_model.specs.Linearizable.{observed}
use Rattle.uni_model.specs.HerlihyWing.{of_process}

-- the calls of one process that have returned, in their order, each with its invocation and its response
pub record ProcessCalls (I R : Type 0) : Type 0 where
  pub process : ℕ
  pub calls : List (I × R)

-- the acts of a process that are observed in a history, in its order: it begins its calls, and is given its responses
abbrev pub acts_by : {I R : Type 0} → ℕ → List (Act I R) → List (Act I R)
acts_by p acts = of_process p (observed acts)

-- the acts of calls of a process, from its call k on, each of which has returned before the next one begins
abbrev pub sequential_acts : {I R : Type 0} → (p k : ℕ) → List (I × R) → List (Act I R)
sequential_acts p k [] = []
sequential_acts p k (c ∷ cs) = Invoke p k c.0 ∷ Respond p k c.1 ∷ sequential_acts p (k + 1) cs

-- process 1 beside another one
sample_acts : acts_by {I = ℕ} {R = ℕ} 1 (Invoke 0 0 5 ∷ Invoke 1 0 7 ∷ Linearize (record { process = 1; nth = 0; inv = 7 }) ∷ Respond 1 0 3 ∷ [])
    ≡ sequential_acts 1 0 ((7, 3) ∷ [])
sample_acts = refl

-- two calls, one after the other
sample_calls : sequential_acts {I = ℕ} {R = ℕ} 1 0 ((7, 3) ∷ (8, 4) ∷ []) ≡ Invoke 1 0 7 ∷ Respond 1 0 3 ∷ Invoke 1 1 8 ∷ Respond 1 1 4 ∷ []
sample_calls = refl
