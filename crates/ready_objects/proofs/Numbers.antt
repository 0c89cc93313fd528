-- Numbers in words.
use Rattle.ready_objects.proofs.Vocabulary.{List, None, Some, ap, arith, cases_Bool, cond-true, decimal, decimal-digits_value, decimal_digit, decimal_nonempty, digit_value, digits_decimal, digits_value, digits_value-decimal, first_decimal, get_or, if◌then◌else◌, inl, inr, is_ascii_digit, is_number, length, length-decimal-le, list_all, lt-ltb, nat_lt, nat_tests, number_below, number_of_word, option_and_then, rules, suc, sym, take, true, zero, ℕ, ◌*◌, ◌+◌, ◌-◌, ◌<◌, ◌^◌, ◌∙◌, ◌≡◌, ◌≤◌}
use Rattle.std.specs.Prelude.{Option}
use Rattle.std.specs.Int.{IsInRange}
use Rattle.std.proofs.lemmas.Int.Digits.{digits_value_more}
use Rattle.std.proofs.lemmas.Str.Parse.{IsNumeralModel, numerals_by_value, digit_at, digits_value_short, digits_value-take-le}
use Rattle.ready_objects.proofs.Words.{lacks_space, lacks_space-digits}

-- a word of digits is one in std's sense
pub all_digits : IsNumeralModel (λ word. list_all is_ascii_digit word ≡ true) (digits_value 10)
all_digits = numerals_by_value _ (search rules)

-- what a digit is worth
digit_value-digit : (c : ℕ) → IsInRange 48 57 c → digit_value c ≡ c - 48
digit_value-digit c digit = grind (arith, nat_tests)

-- the digits of a word so far write no more than twelve can
pub digits_value-take : (word : List ℕ) (i : ℕ) → list_all is_ascii_digit word ≡ true → length word ≤ 12 → digits_value 10 (take i word) < 10 ^ 12
digits_value-take word i digits short =
    let whole = digits_value_short all_digits word 12 digits short in
    let part = digits_value-take-le 10 word i (omega arith) in
    omega arith

-- one more digit
pub digits_value-take-more : (word : List ℕ) (i : ℕ) → list_all is_ascii_digit word ≡ true → i < length word
    → digits_value 10 (take (i + 1) word) ≡ digits_value 10 (take i word) * 10 + (get_or word i 0 - 48)
digits_value-take-more word i digits below =
    digits_value_more 10 word i below
    ∙ ap (λ d. digits_value 10 (take i word) * 10 + d) (digit_value-digit (get_or word i 0) (digit_at word i (all_digits.to word digits) below))

-- what makes a word of digits a number
is_number-from : (word : List ℕ) → 0 < length word → length word ≤ 12 → list_all is_ascii_digit word ≡ true
    → (get_or word 0 0 ≡ 48 → length word ≡ 1) → is_number word ≡ true
is_number-from word some few digits plain = grind (arith, nat_tests)

-- a number's decimal text doesn't begin with a zero, unless it is `0`
decimal-plain : (n : ℕ) → n < 2 ^ 64 → get_or (decimal n) 0 0 ≡ 48 → length (decimal n) ≡ 1
decimal-plain zero small first = ap length (decimal_digit 0 (omega arith))
decimal-plain (suc n) small first = absurd (omega (arith, first_decimal (suc n) (omega arith) small))

-- a number's decimal text is a number's word
is_number-decimal : (n : ℕ) → n ≤ 999999999999 → is_number (decimal n) ≡ true
is_number-decimal n small =
    let fits : n < 2 ^ 64 = omega arith in
    is_number-from (decimal n) (decimal_nonempty n fits) (length-decimal-le 12 n (omega arith) (omega arith) fits)
    (digits_decimal all_digits n fits) (decimal-plain n fits)

-- a number's decimal text is read as it
pub number_of_word-decimal : (n : ℕ) → n ≤ 999999999999 → number_of_word (decimal n) ≡ Some n
unfolding number_of_word
number_of_word-decimal n small =
    let fits : n < 2 ^ 64 = omega arith in
    cond-true (is_number (decimal n)) (Some (digits_value 10 (decimal n))) None (is_number-decimal n small)
    ∙ ap Some (digits_value-decimal all_digits n fits)

-- a number's decimal text has no space
pub lacks_space-decimal : (n : ℕ) → n ≤ 999999999999 → lacks_space (decimal n) ≡ true
lacks_space-decimal n small =
    let fits : n < 2 ^ 64 = omega arith in lacks_space-digits (decimal n) (digits_decimal all_digits n fits)

-- what the two parts of a number's test say
is_number-parts : (word : List ℕ) → is_number word ≡ true
    → (0 < length word) × (length word ≤ 12) × (list_all is_ascii_digit word ≡ true) × (get_or word 0 0 ≡ 48 → length word ≡ 1)
is_number-parts word number = grind (arith, nat_tests)

-- a word that is read as a number is its decimal text
pub decimal-number_of_word : (word : List ℕ) (n : ℕ) → number_of_word word ≡ Some n → decimal n ≡ word
unfolding number_of_word
decimal-number_of_word word n read =
    elim (cases_Bool (is_number word)) [
      | inl number ↦
          let parts = is_number-parts word number in
          let value = digits_value_short all_digits word 12 parts.2 parts.1 in
          let same : digits_value 10 word ≡ n = let r = rw number at read in cc in
          ap decimal (sym same) ∙ decimal-digits_value all_digits word parts.2 parts.0 parts.3 (omega arith)
      | inr not_number ↦ let r = rw not_number at read in cc
    ]

-- the same of a number below a limit
pub number_below-decimal : (limit n : ℕ) → n < limit → n ≤ 999999999999 → number_below limit (decimal n) ≡ Some n
unfolding number_below
number_below-decimal limit n below small =
    rw (number_of_word-decimal n small) (cond-true (nat_lt n limit) (Some n) None (lt-ltb n limit below))

below_limit : (limit : ℕ) (o : Option ℕ) (n : ℕ) → option_and_then (λ m. if nat_lt m limit then Some m else None) o ≡ Some n → o ≡ Some n
below_limit limit None n read = cc
below_limit limit (Some m) n read =
    elim (cases_Bool (nat_lt m limit)) [ inl below ↦ rw below at read | inr above ↦ let r = rw above at read in cc ]

pub decimal-number_below : (limit : ℕ) (word : List ℕ) (n : ℕ) → number_below limit word ≡ Some n → decimal n ≡ word
unfolding number_below
decimal-number_below limit word n read = decimal-number_of_word word n (below_limit limit (number_of_word word) n read)
