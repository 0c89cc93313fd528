-- The decimal text of a number of up to three digits.
use Rattle.std.proofs.Common.{[], ap, arith, ℕ, ◌%◌, ◌+◌, ◌++◌, ◌/◌, ◌<◌, ◌∙◌, ◌∷◌, ◌≡◌, ◌≤◌}
use Rattle.std.proofs.lemmas.Fmt.{decimal_digit, decimal_step}
use Rattle.std.specs.Fmt.{decimal}

pub decimal-one : (n : ℕ) → n < 10 → decimal n ≡ (48 + n % 10) ∷ []
decimal-one n few = decimal_digit n few ∙ ap (λ d. (48 + d) ∷ []) (let e : n ≡ n % 10 = omega arith in e)

pub decimal-two : (n : ℕ) → 10 ≤ n → n < 100 → decimal n ≡ (48 + n / 10 % 10) ∷ (48 + n % 10) ∷ []
decimal-two n many few = decimal_step n many (omega arith) ∙ ap (λ l. l ++ (48 + n % 10) ∷ []) (decimal-one (n / 10) (omega arith))

pub decimal-three : (n : ℕ) → 100 ≤ n → n < 1000 → decimal n ≡ (48 + n / 10 / 10 % 10) ∷ (48 + n / 10 % 10) ∷ (48 + n % 10) ∷ []
decimal-three n many few = decimal_step n (omega arith) (omega arith) ∙ ap (λ l. l ++ (48 + n % 10) ∷ []) (decimal-two (n / 10) (omega arith) (omega arith))
