-- The atomic object: each call is invoked, takes effect once, at one instant, and then responds with what the sequential
-- object answers at its place. It knows no list of cells, no helping, no numbers of cells and no trim.
use Rattle.std.specs.Prelude.{◌≡◌, ℕ, ◌+◌, ◌<◌, ◌==◌, if◌then◌else◌, List, [], ◌∷◌, ◌++◌, Option, None, Some}
use Rattle.std.specs.Prelude.{map, slice_get, Contains, refl}
use Rattle.std.proofs.Common.{arith}
use Rattle.seq_object.specs.Sequential.{Sequential, counter}
use Rattle.seq_object.specs.History.{response_at}

-- a call with its invocation: which one of its process, from 0
pub record Invoked (I : Type 0) : Type 0 where
  pub process : ℕ
  pub nth : ℕ
  pub inv : I

-- a function with another value at a number
abbrev pub set_at : {A : Type 0} → (ℕ → A) → ℕ → A → ℕ → A
set_at f p v q = if q == p then v else f q

pub record Atomic (S I : Type 0) : Type 0 where
  -- the state before any call
  pub start : S
  -- the calls that took effect, in that order: the linearization
  pub agreed : List (Invoked I)
  -- the call that each process has invoked, and that has not yet responded
  pub open_call : ℕ → Option (Invoked I)
  -- the number that its next call has
  pub next_nth : ℕ → ℕ

-- nothing is called yet
abbrev pub at_start : {S I : Type 0} → S → Atomic S I
at_start s = record { start = s; agreed = []; open_call = λ p. None; next_nth = λ p. 0 }

-- a call begins, takes effect at its linearization point, and ends with a response
pub data Act (I R : Type 0) : Type 0 where
  Invoke : (process nth : ℕ) → I → Act I R
  Linearize : Invoked I → Act I R
  Respond : (process nth : ℕ) → R → Act I R

-- from a the atomic object may take the act, and it is b then
abbrev pub Accepts : {S I R : Type 0} → Sequential S I R → Atomic S I → Act I R → Atomic S I → Type 0
-- a process begins a call only where it has none open, with its next number
Accepts object a (Invoke p k i) b =
    (a.open_call p ≡ None) × (a.next_nth p ≡ k)
    × (b ≡ record a {
      open_call = set_at a.open_call p (Some (record { process = p; nth = k; inv = i }));
      next_nth = set_at a.next_nth p (k + 1);
    })
-- an open call takes effect once, after all that took effect before
Accepts object a (Linearize c) b =
    (a.open_call c.process ≡ Some c) × (¬ (Contains a.agreed c))
    × (b ≡ record a { agreed = a.agreed ++ c ∷ [] })
-- it ends after it took effect, and its response is the object's at its place
Accepts {S} {I} {R} object a (Respond p k r) b =
    ((i : I) × (place : ℕ)
    × (a.open_call p ≡ Some (record { process = p; nth = k; inv = i }))
    × (slice_get a.agreed place ≡ Some (record { process = p; nth = k; inv = i }))
    × (response_at object a.start (map (λ c. c.inv) a.agreed) place ≡ Some r))
    × (b ≡ record a { open_call = set_at a.open_call p None })

-- one act after another
abbrev pub AcceptsAll : {S I R : Type 0} → Sequential S I R → Atomic S I → List (Act I R) → Atomic S I → Type 0
AcceptsAll object a [] b = b ≡ a
AcceptsAll {S} {I} {R} object a (act ∷ acts) b = (c : Atomic S I) × Accepts object a act c × AcceptsAll object c acts b

-- the calls that take effect among these acts, in their order
abbrev pub points : {I R : Type 0} → List (Act I R) → List (Invoked I)
points [] = []
points (Linearize c ∷ acts) = c ∷ points acts
points (act ∷ acts) = points acts

-- process 0 calls a counter with 5; the call takes effect; it responds with the sum before
abbrev sample_call : Invoked ℕ
sample_call = record { process = 0; nth = 0; inv = 5 }

sample_points : points {R = ℕ} (Invoke 0 0 5 ∷ Linearize sample_call ∷ Respond 0 0 0 ∷ []) ≡ sample_call ∷ []
sample_points = refl

sample_answer : response_at counter 0 (map (λ (c : Invoked ℕ). c.inv) (sample_call ∷ [])) 0 ≡ Some 0
sample_answer = refl

-- the atomic object takes these three acts, one after another
sample_accepted : (b : Atomic ℕ ℕ) × AcceptsAll counter (at_start 0) (Invoke 0 0 5 ∷ Linearize sample_call ∷ Respond 0 0 0 ∷ []) b
sample_accepted = (_, (_, (refl, refl, refl), (_, (refl, λ there. let less : there.0 < 0 = there.1 in omega arith, refl), (_, ((5, 0, refl, refl, refl), refl), refl))))
