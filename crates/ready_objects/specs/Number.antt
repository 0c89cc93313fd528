-- The words that stand for numbers.
use Rattle.std.specs.Prelude.{◌≡◌, ℕ, ◌==◌, nat_lt, nat_le, not, ◌&&◌, ◌||◌, if◌then◌else◌, Bool, List, []}
use Rattle.std.specs.Prelude.{◌∷◌, ◌++◌, length, map, slice_index, Option, Some, None, option_and_then, codes, refl}
use Rattle.std.specs.Char.{is_ascii_digit}
use Rattle.std.specs.Fmt.{decimal, digits}
use Rattle.std.specs.List.{list_all}
use Rattle.std.specs.Str.Parse.{digits_value}
use Rattle.ready_objects.specs.Words.{spaced_from}

-- 1 to 12 decimal digits, without a leading zero unless the word is `0`
abbrev pub is_number : List ℕ → Bool
is_number word =
    nat_lt 0 (length word) && nat_le (length word) 12 && list_all is_ascii_digit word
    && (not (slice_index word 0 == 48) || length word == 1)

-- the number that a word stands for
unfoldable pub number_of_word : List ℕ → Option ℕ
number_of_word word = if is_number word then Some (digits_value 10 word) else None

-- the number below a limit that a word stands for
unfoldable pub number_below : ℕ → List ℕ → Option ℕ
number_below limit word = option_and_then (λ n. if nat_lt n limit then Some n else None) (number_of_word word)

-- the text of a list of numbers, as `[3 5]`
abbrev pub numbers_text : List ℕ → List ℕ
numbers_text numbers = codes "[" ++ spaced_from decimal 0 numbers ++ codes "]"

zero_is_a_number : number_of_word (codes "0") ≡ Some 0
unfolding number_of_word
zero_is_a_number = refl

twelve_digits_are_a_number : number_of_word (codes "999999999999") ≡ Some 999999999999
unfolding number_of_word
twelve_digits_are_a_number = refl

thirteen_digits_are_none : number_of_word (codes "1000000000000") ≡ None
unfolding number_of_word
thirteen_digits_are_none = refl

a_leading_zero_is_none : number_of_word (codes "007") ≡ None
unfolding number_of_word
a_leading_zero_is_none = refl

the_empty_word_is_none : number_of_word (codes "") ≡ None
unfolding number_of_word
the_empty_word_is_none = refl

a_sign_is_none : number_of_word (codes "+7") ≡ None
unfolding number_of_word
a_sign_is_none = refl

fifteen_is_below_sixteen : number_below 16 (codes "15") ≡ Some 15
unfolding number_below number_of_word
fifteen_is_below_sixteen = refl

sixteen_is_not_below_sixteen : number_below 16 (codes "16") ≡ None
unfolding number_below number_of_word
sixteen_is_not_below_sixteen = refl

nine_is_a_number : number_of_word (codes "9") ≡ Some 9
unfolding number_of_word
nine_is_a_number = refl

two_zeros_are_none : number_of_word (codes "00") ≡ None
unfolding number_of_word
two_zeros_are_none = refl

-- bytes 47 and 58 stand beside the digits
the_byte_before_0_is_none : number_of_word (47 ∷ []) ≡ None
unfolding number_of_word
the_byte_before_0_is_none = refl

the_byte_after_9_is_none : number_of_word (58 ∷ []) ≡ None
unfolding number_of_word
the_byte_after_9_is_none = refl

two_hundred_and_fifty_five_is_below_256 : number_below 256 (codes "255") ≡ Some 255
unfolding number_below number_of_word
two_hundred_and_fifty_five_is_below_256 = refl

two_hundred_and_fifty_six_is_not_below_256 : number_below 256 (codes "256") ≡ None
unfolding number_below number_of_word
two_hundred_and_fifty_six_is_not_below_256 = refl

value_0_and_leading_zeros : map number_of_word (codes "0" ∷ codes "01" ∷ codes "000000000000" ∷ codes "0999999999999" ∷ [])
    ≡ Some 0 ∷ None ∷ None ∷ None ∷ []
unfolding number_of_word
value_0_and_leading_zeros = refl

-- 2^64 and 2^64 + 1, which are 0 and 1 in 64 bits
numbers_past_64_bits_are_none : map number_of_word (codes "18446744073709551616" ∷ codes "18446744073709551617" ∷ [])
    ≡ None ∷ None ∷ []
unfolding number_of_word
numbers_past_64_bits_are_none = refl

zero_is_below_one : map (number_below 1) (codes "0" ∷ codes "1" ∷ []) ≡ Some 0 ∷ None ∷ []
unfolding number_below number_of_word
zero_is_below_one = refl

numbers_far_past_16_are_not_below_it : map (number_below 16) (codes "999999999999" ∷ codes "1000000000000" ∷ [])
    ≡ None ∷ None ∷ []
unfolding number_below number_of_word
numbers_far_past_16_are_not_below_it = refl

a_leading_zero_is_not_below_16 : map (number_below 16) (codes "015" ∷ codes "00" ∷ []) ≡ None ∷ None ∷ []
unfolding number_below number_of_word
a_leading_zero_is_not_below_16 = refl

text_of_two_numbers : numbers_text (3 ∷ 50 ∷ []) ≡ codes "[3 50]"
unfolding digits
text_of_two_numbers = refl

text_of_no_number : numbers_text [] ≡ codes "[]"
text_of_no_number = refl
