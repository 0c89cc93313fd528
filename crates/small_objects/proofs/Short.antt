-- Lists of one to four words that are written one by one.
use Rattle.std.proofs.Common.{◌≡◌, ℕ, List, [], ◌∷◌, length, refl, set, arith}

pub one_set : (words : List ℕ) (x : ℕ) → length words ≡ 1 → set words 0 x ≡ x ∷ []
one_set [] x long = absurd (omega arith)
one_set (a ∷ []) x long = refl
one_set (a ∷ b ∷ words) x long = absurd (omega arith)

pub two_set : (words : List ℕ) (x y : ℕ) → length words ≡ 2 → set (set words 0 x) 1 y ≡ x ∷ y ∷ []
two_set [] x y long = absurd (omega arith)
two_set (a ∷ []) x y long = absurd (omega arith)
two_set (a ∷ b ∷ []) x y long = refl
two_set (a ∷ b ∷ c ∷ words) x y long = absurd (omega arith)

pub three_set : (words : List ℕ) (x y z : ℕ) → length words ≡ 3 → set (set (set words 0 x) 1 y) 2 z ≡ x ∷ y ∷ z ∷ []
three_set [] x y z long = absurd (omega arith)
three_set (a ∷ []) x y z long = absurd (omega arith)
three_set (a ∷ b ∷ []) x y z long = absurd (omega arith)
three_set (a ∷ b ∷ c ∷ []) x y z long = refl
three_set (a ∷ b ∷ c ∷ d ∷ words) x y z long = absurd (omega arith)

pub four_set : (words : List ℕ) (x y z w : ℕ) → length words ≡ 4 → set (set (set (set words 0 x) 1 y) 2 z) 3 w ≡ x ∷ y ∷ z ∷ w ∷ []
four_set [] x y z w long = absurd (omega arith)
four_set (a ∷ []) x y z w long = absurd (omega arith)
four_set (a ∷ b ∷ []) x y z w long = absurd (omega arith)
four_set (a ∷ b ∷ c ∷ []) x y z w long = absurd (omega arith)
four_set (a ∷ b ∷ c ∷ d ∷ []) x y z w long = refl
four_set (a ∷ b ∷ c ∷ d ∷ e ∷ words) x y z w long = absurd (omega arith)
