-- The values of a function below a number, as a list; elements of lists that are appended; and what holds at each number.
use Rattle.uni_model.proofs.Vocabulary.{List, [], ap, arith, inl, inr, length, refl, set_at, subst, suc, sym, zero, ℕ, ◌++◌, ◌<◌, ◌∷◌, ◌≡◌, ◌≢◌, ◌⊎◌}
use Rattle.uni_model.proofs.Written.{set_at-cases}
use lib.ListN.{get_elem?}
use mathlib.Core.Option.{some, some-injective, some-ne-none}

-- the values of a function below a number
abbrev pub each_of : {A : Type 0} → (ℕ → A) → ℕ → List A
each_of f zero = []
each_of f (suc n) = f zero ∷ each_of (λ k. f (suc k)) n

pub at_each : {A : Type 0} (f : ℕ → A) (n k : ℕ) → k < n → get_elem? (each_of f n) k ≡ some (f k)
at_each f zero k below = absurd (omega arith)
at_each f (suc n) zero below = refl
at_each f (suc n) (suc k) below = at_each (λ j. f (suc j)) n k (omega arith)

pub from_each : {A : Type 0} (f : ℕ → A) (n k : ℕ) (a : A) → get_elem? (each_of f n) k ≡ some a → (k < n) × (f k ≡ a)
from_each f zero k a e = absurd (some-ne-none a (sym e))
from_each f (suc n) zero a e = (omega arith, some-injective (f zero) a e)
from_each f (suc n) (suc k) a e = let h = from_each (λ j. f (suc j)) n k a e in (let b = h.0 in omega arith, h.1)

-- an element of a list with one more at its end
pub at_end : {A : Type 0} (l : List A) (a b : A) (j : ℕ) → get_elem? (l ++ a ∷ []) j ≡ some b → (get_elem? l j ≡ some b) ⊎ ((j ≡ length l) × (a ≡ b))
at_end [] a b zero e = inr (refl, some-injective a b e)
at_end [] a b (suc j) e = absurd (some-ne-none b (sym e))
at_end (x ∷ xs) a b zero e = inl e
at_end (x ∷ xs) a b (suc j) e = elim (at_end xs a b j e) [ inl h ↦ inl h | inr h ↦ inr (ap suc h.0, h.1) ]

-- what holds at each number below n, where one of them gets another value
pub each-set_at : {A : Type 0} (Holds : ℕ → A → Type 0) (n : ℕ) (f : ℕ → A) (p : ℕ) (v : A) → Holds p v → ((q : ℕ) → q < n → q ≢ p → Holds q (f q)) → (q : ℕ) → q < n → Holds q (set_at f p v q)
each-set_at Holds n f p v here others q inside = elim (set_at-cases f p v q) [
  | inl same ↦ subst (λ x. Holds q x) (sym same.1) (subst (λ k. Holds k v) (sym same.0) here)
  | inr other ↦ subst (λ x. Holds q x) (sym other.1) (others q inside other.0)
]
