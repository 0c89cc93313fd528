-- Executions of a machine, as they go on.
use Rattle.std.proofs.Common.{append-nil, append_assoc}
use Rattle.uni_model.proofs.Vocabulary.{List, ap, refl, subst, sym, ℕ, ◌++◌, ◌<◌, ◌∙◌, ◌≡◌}
use Rattle.seq_object.specs.Sequential.{Sequential}
use Rattle.uni_model.proofs.Placed.{AgreesInOrder-holds}
use Rattle.uni_model.proofs.Points.{agreed-along, points-append}
use Rattle.uni_model.specs.AtomicObject.{AcceptsAll, Act, Atomic, at_start, points}
use Rattle.uni_model.specs.Executions.{Execution, IsLinearizedAtSteps, KeepsOrder, goes_on, all_acts, last_moment}
use Rattle.uni_model.specs.Executions.Execution.{Ends, Takes}
use Rattle.uni_model.specs.Linearizable.{observed}

module _ {M : Type 0} (n : ℕ) (Step : (m : M) (p : ℕ) → Type 0) (after : (m : M) (p : ℕ) → Step m p → M) where
  pub last-goes_on : {m : M} (e : Execution n Step after m) (more : Execution n Step after (last_moment n Step after e)) → last_moment n Step after (goes_on n Step after e more) ≡ last_moment n Step after more
  last-goes_on Ends more = refl
  last-goes_on (Takes p inside step rest) more = last-goes_on rest more

  module _ {A : Type 0} (acts : (m : M) (p : ℕ) → Step m p → List A) where
    pub all_acts-goes_on : {m : M} (e : Execution n Step after m) (more : Execution n Step after (last_moment n Step after e))
        → all_acts n Step after acts (goes_on n Step after e more) ≡ all_acts n Step after acts e ++ all_acts n Step after acts more
    all_acts-goes_on Ends more = refl
    all_acts-goes_on (Takes {m = m} p inside step rest) more =
        ap (λ l. acts m p step ++ l) (all_acts-goes_on rest more) ∙ sym (append_assoc (acts m p step) (all_acts n Step after acts rest) (all_acts n Step after acts more))

    -- what each step keeps of a moment and of the acts up to it, an execution keeps
    pub kept_along : (Keeps : M → List A → Type 0) → ((m : M) (before : List A) → Keeps m before → (p : ℕ) → p < n → (step : Step m p) → Keeps (after m p step) (before ++ acts m p step))
        → {m : M} (before : List A) → Keeps m before → (e : Execution n Step after m) → Keeps (last_moment n Step after e) (before ++ all_acts n Step after acts e)
    kept_along Keeps step_keeps {m = m} before h Ends = subst (Keeps m) (sym (append-nil before)) h
    kept_along Keeps step_keeps before h (Takes {m = m} p inside step rest) =
        subst (Keeps (last_moment n Step after rest)) (append_assoc before (acts m p step) (all_acts n Step after acts rest))
        (kept_along Keeps step_keeps (before ++ acts m p step) (step_keeps m before h p inside step) rest)

    -- an execution goes on by one step
    pub runs_on : {first : M} (e : Execution n Step after first) (m : M) → last_moment n Step after e ≡ m → (p : ℕ) → p < n → (step : Step m p)
        → (more : Execution n Step after first) × (last_moment n Step after more ≡ after m p step) × (all_acts n Step after acts more ≡ all_acts n Step after acts e ++ acts m p step)
    runs_on {first = first} e m leads p inside = subst (λ z. (step : Step z p) → (more : Execution n Step after first) × (last_moment n Step after more ≡ after z p step) × (all_acts n Step after acts more ≡ all_acts n Step after acts e ++ acts z p step)) leads (λ step.
        let one : Execution n Step after (last_moment n Step after e) = Takes p inside step Ends in
        (goes_on n Step after e one, last-goes_on e one, all_acts-goes_on e one ∙ (λ k. all_acts n Step after acts e ++ append-nil (acts (last_moment n Step after e) p step) k)))

  pub keeps_order : {I R : Type 0} (acts : (m : M) (p : ℕ) → Step m p → List (Act I R)) {m : M} (e : Execution n Step after m) (more : Execution n Step after (last_moment n Step after e)) → KeepsOrder n Step after acts e more
  keeps_order acts e more = ap points (all_acts-goes_on acts e more) ∙ points-append (all_acts n Step after acts e) (all_acts n Step after acts more)

-- acts that the atomic object takes
pub linearized_by : {S I R : Type 0} (object : Sequential S I R) (acts : List (Act I R)) (atomic : Atomic S I) → AcceptsAll object (at_start object.initial) acts atomic → IsLinearizedAtSteps object acts
linearized_by object acts atomic accepted =
    let agreed : atomic.agreed ≡ points acts = agreed-along object (at_start object.initial) atomic acts accepted in
    let both = (AgreesInOrder-holds object object.initial (observed acts) (points acts)).0 (acts, atomic, refl, accepted, agreed) in
    record { atomic = atomic; accepted = accepted; agreed = agreed; well_formed = both.0; completed = both.1 }
