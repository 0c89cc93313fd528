-- Sums below a number.
use Rattle.uni_model.proofs.Vocabulary.{arith, cases_lt, inl, inr, subst, suc, sum_below, zero, ℕ, ◌+◌, ◌<◌, ◌≡◌, ◌≤◌}

pub sum_below-le : (n : ℕ) (f g : ℕ → ℕ) → ((p : ℕ) → p < n → f p ≤ g p) → sum_below n f ≤ sum_below n g
sum_below-le zero f g each = omega arith
sum_below-le (suc n) f g each =
    let rest : sum_below n f ≤ sum_below n g = sum_below-le n f g (λ p h. each p (omega arith)) in
    let here : f n ≤ g n = each n (omega arith) in omega arith

-- one more at some place
pub sum_below-lt : (n : ℕ) (f g : ℕ → ℕ) → ((p : ℕ) → p < n → f p ≤ g p) → (o : ℕ) → o < n → f o + 1 ≤ g o → sum_below n f + 1 ≤ sum_below n g
sum_below-lt zero f g each o inside more = absurd (omega arith)
sum_below-lt (suc n) f g each o inside more =
    let here : f n ≤ g n = each n (omega arith) in
    elim (cases_lt o n) [
      | inl before ↦
          let rest : sum_below n f + 1 ≤ sum_below n g = sum_below-lt n f g (λ p h. each p (omega arith)) o before more in omega arith
      | inr not_before ↦
          let rest : sum_below n f ≤ sum_below n g = sum_below-le n f g (λ p h. each p (omega arith)) in
          let last : o ≡ n = omega arith in
          let there : f n + 1 ≤ g n = subst (λ x. f x + 1 ≤ g x) last more in omega arith
    ]
