-- Locality (Herlihy and Wing 1990, theorem 1): a history over several objects is linearizable exactly where each object's
-- subhistory is.
use Rattle.std.specs.Prelude.{◌≡◌, ◌↔◌, refl, ℕ, ◌+◌, ◌-◌, ◌==◌, if◌then◌else◌, List, [], ◌∷◌}
use Rattle.seq_object.specs.Sequential.{Sequential}
use Rattle.uni_model.specs.AtomicObject.{Act, set_at}
use Rattle.uni_model.specs.AtomicObject.Act.{Invoke, Linearize, Respond}
use Rattle.uni_model.specs.Linearizable.{IsLinearizableHistory}
use Rattle.uni_model.specs.HerlihyWing.{IsWellFormed}

-- several objects as one, their product: each invocation and each response names the object that it belongs to
abbrev pub together : {S I R : Type 0} → (ℕ → Sequential S I R) → Sequential (ℕ → S) (ℕ × I) (ℕ × R)
together objects =
    record {
      initial = λ x. (objects x).initial;
      next = λ s call. set_at s call.0 ((objects call.0).next (s call.0) call.1);
      answer = λ s call. (call.0, (objects call.0).answer (s call.0) call.1);
    }

-- the subhistory of the object x, in which each process's calls of x are numbered anew; next is the number of its next one
abbrev pub of_object : {I R : Type 0} → (x : ℕ) → (next : ℕ → ℕ) → List (Act (ℕ × I) (ℕ × R)) → List (Act I R)
of_object x next [] = []
of_object x next (Invoke p k call ∷ acts) =
    if call.0 == x then Invoke p (next p) call.1 ∷ of_object x (set_at next p (next p + 1)) acts else of_object x next acts
of_object x next (Linearize c ∷ acts) = of_object x next acts
of_object x next (Respond p k response ∷ acts) =
    if response.0 == x then Respond p (next p - 1) response.1 ∷ of_object x next acts else of_object x next acts

-- a well-formed history over the objects is linearizable exactly where each object's subhistory is
abbrev pub IsLocal : {S I R : Type 0} → (ℕ → Sequential S I R) → (ℕ → S) → List (Act (ℕ × I) (ℕ × R)) → Type 0
IsLocal objects start history =
    IsWellFormed history
    → ((x : ℕ) → IsLinearizableHistory (objects x) (start x) (of_object x (λ p. 0) history))
    ↔ IsLinearizableHistory (together objects) start history

-- two objects: 0 is called by process 1 in its second call
abbrev sample : List (Act (ℕ × ℕ) (ℕ × ℕ))
sample = Invoke 1 0 (5, 7) ∷ Respond 1 0 (5, 8) ∷ Invoke 1 1 (0, 3) ∷ Respond 1 1 (0, 4) ∷ []

sample-of_object : of_object 0 (λ p. 0) sample ≡ Invoke 1 0 3 ∷ Respond 1 0 4 ∷ []
sample-of_object = refl
