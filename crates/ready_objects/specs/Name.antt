-- Names.
use Rattle.std.specs.Prelude.{◌≡◌, ℕ, ◌%◌, nat_lt, nat_le, ◌&&◌, ◌||◌, if◌then◌else◌, Bool, true, false, List, []}
use Rattle.std.specs.Prelude.{◌∷◌, ◌++◌, length, map, Option, Some, None, codes, refl}
use Rattle.std.specs.Fmt.{decimal, digits}
use Rattle.std.specs.List.{list_all}

-- `a` to `z`, and `0` to `9`
abbrev pub is_name_byte : ℕ → Bool
is_name_byte b = (nat_le 97 b && nat_le b 122) || (nat_le 48 b && nat_le b 57)

-- 1 to 16 such bytes
abbrev pub is_name : List ℕ → Bool
is_name word = nat_lt 0 (length word) && nat_le (length word) 16 && list_all is_name_byte word

-- the name that a word is
abbrev pub name_of_word : List ℕ → Option (List ℕ)
name_of_word word = if is_name word then Some word else None

-- `n` and the last digit of a number
abbrev pub drawn_name : ℕ → List ℕ
drawn_name number = codes "n" ++ decimal (number % 10)

letters_and_digits_are_a_name : name_of_word (codes "az09") ≡ Some (codes "az09")
letters_and_digits_are_a_name = refl

sixteen_bytes_are_a_name : is_name (codes "abcdefghijklmnop") ≡ true
sixteen_bytes_are_a_name = refl

seventeen_bytes_are_none : name_of_word (codes "abcdefghijklmnopq") ≡ None
seventeen_bytes_are_none = refl

the_empty_word_is_no_name : name_of_word [] ≡ None
the_empty_word_is_no_name = refl

a_capital_is_in_no_name : name_of_word (codes "aB") ≡ None
a_capital_is_in_no_name = refl

a_drawn_name : drawn_name 12 ≡ codes "n2"
unfolding digits
a_drawn_name = refl

one_byte_is_a_name : name_of_word (codes "a") ≡ Some (codes "a")
one_byte_is_a_name = refl

-- `a`, `z`, `0` and `9`, and the bytes beside them
bytes_of_names : map is_name_byte (97 ∷ 122 ∷ 48 ∷ 57 ∷ []) ≡ true ∷ true ∷ true ∷ true ∷ []
bytes_of_names = refl

bytes_beside_those_of_names : map is_name_byte (96 ∷ 123 ∷ 47 ∷ 58 ∷ []) ≡ false ∷ false ∷ false ∷ false ∷ []
bytes_beside_those_of_names = refl

drawn_names_have_one_digit : map drawn_name (0 ∷ 9 ∷ 10 ∷ []) ≡ codes "n0" ∷ codes "n9" ∷ codes "n0" ∷ []
unfolding digits
drawn_names_have_one_digit = refl

a_name_of_16_bytes_is_itself : name_of_word (codes "0123456789qrstuv") ≡ Some (codes "0123456789qrstuv")
a_name_of_16_bytes_is_itself = refl

a_name_of_17_bytes_is_none : name_of_word (codes "0123456789qrstuvw") ≡ None
a_name_of_17_bytes_is_none = refl
