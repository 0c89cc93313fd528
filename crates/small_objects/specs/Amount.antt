-- Amounts in words.
use Rattle.std.specs.Prelude.{◌≡◌, ℕ, ◌≤◌, ◌==◌, ◌&&◌, Bool, true, false, List, [], ◌∷◌, Option, None, Some, if◌then◌else◌, length, nat_le, refl, slice_index}
use Rattle.std.proofs.Common.{arith}
use Rattle.std.proofs.lemmas.Bool.{and_parts, leb-true}
use Rattle.std.proofs.lemmas.Bool.Decides.{nat_tests}

-- whether a word is an amount
abbrev pub is_amount : (word : ℕ) → Bool
is_amount word = nat_le word 999999999999

pub is_amount-true : (word : ℕ) → word ≤ 999999999999 → is_amount word ≡ true
is_amount-true word small = grind (arith, nat_tests)

pub true-is_amount : (word : ℕ) → is_amount word ≡ true → word ≤ 999999999999
true-is_amount word is = leb-true word 999999999999 is

-- the words of an amount that may be missing: whether it is there, and the amount
abbrev pub amount_words : Option ℕ → List ℕ
amount_words None = 0 ∷ 0 ∷ []
amount_words (Some amount) = 1 ∷ amount ∷ []

abbrev pub amount_in : List ℕ → Option ℕ
amount_in words = if slice_index words 0 == 1 && is_amount (slice_index words 1) then Some (slice_index words 1) else None

-- it is an amount, where it is there
abbrev pub IsAmount : Option ℕ → Type 0
IsAmount None = Unit {0}
IsAmount (Some amount) = amount ≤ 999999999999

pub amount_long : (amount : Option ℕ) → length (amount_words amount) ≡ 2
amount_long None = refl
amount_long (Some amount) = refl

pub amount_fits : (amount : Option ℕ) → IsAmount amount → amount_in (amount_words amount) ≡ amount
amount_fits None is = refl
amount_fits (Some amount) is = rw (is_amount-true amount is) refl

-- what words are is an amount
pub amount_in-IsAmount : (words : List ℕ) → IsAmount (amount_in words)
amount_in-IsAmount words = by_test (slice_index words 0 == 1 && is_amount (slice_index words 1)) refl where
  by_test : (b : Bool) → (slice_index words 0 == 1 && is_amount (slice_index words 1)) ≡ b → IsAmount (if b then Some (slice_index words 1) else None)
  by_test true is = true-is_amount (slice_index words 1) (and_parts (slice_index words 0 == 1) (is_amount (slice_index words 1)) is).1
  by_test false is = tt

sample_amount : amount_in (1 ∷ 999999999999 ∷ []) ≡ Some 999999999999
sample_amount = refl

sample_greater : amount_in (1 ∷ 1000000000000 ∷ []) ≡ None
sample_greater = refl

sample_none : amount_in (0 ∷ 7 ∷ []) ≡ None
sample_none = refl
