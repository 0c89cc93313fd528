-- Options whose values are numbers.
use Rattle.std.specs.Prelude.{◌≡◌, ℕ, ◌&&◌, Bool, List, [], ◌∷◌, Option, None, Some, map, option_and_then}
use Rattle.std.specs.Prelude.{codes, if◌then◌else◌, nat_lt, nat_le, length, refl}
use Rattle.std.specs.Str.{all_ascii_digits}
use Rattle.std.specs.Str.Parse.{digits_value, without_leading_plus}
use Rattle.clap.specs.Words.{Row, Rule, Text, first_of}
use Rattle.clap.specs.declared.builder.value_parser.ValueParser.TheVariants.{Unsigned}

-- the option, where its value is to be a number of a range, perhaps after a plus
abbrev pub in_range : Rule → (least most : ℕ) → Rule
in_range number least most = record number { parser = Some (Unsigned least most) }

-- one decimal digit or more, and nothing else
abbrev pub are_digits : List ℕ → Bool
are_digits ds = nat_lt 0 (length ds) && all_ascii_digits ds

-- the number that digits write, if it is one of a range
abbrev pub value_in : (least most : ℕ) → List ℕ → Option ℕ
value_in least most ds =
    if are_digits ds && nat_le least (digits_value 10 ds) && nat_le (digits_value 10 ds) most then Some (digits_value 10 ds) else None

-- the number that a text writes in decimal, perhaps after a plus, if it is one of a range
abbrev pub number_in : (least most : ℕ) → Text → Option ℕ
number_in least most text = value_in least most (without_leading_plus text)

-- what a reader makes of the first value of an option
abbrev pub value_of : {A : Type 0} → (Text → Option A) → (id : Text) → List Row → Option A
value_of read id rows = option_and_then read (first_of id rows)

-- one plus may come first, and zeros
signs_of_numbers : map (number_in 1 64) (codes "+64" ∷ codes "064" ∷ codes "++64" ∷ codes "-1" ∷ codes "+" ∷ codes "" ∷ [])
    ≡ Some 64 ∷ Some 64 ∷ None ∷ None ∷ None ∷ None ∷ []
signs_of_numbers = refl

-- bytes 47 and 58 stand beside the digits
bytes_beside_digits : map (number_in 1 64) ((47 ∷ []) ∷ (58 ∷ []) ∷ []) ≡ None ∷ None ∷ []
bytes_beside_digits = refl
