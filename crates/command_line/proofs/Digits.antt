-- Numbers in texts, and the first values of options.
use Rattle.std.proofs.Common.{◌≡◌, ◌∙◌, ℕ, ◌≤◌, Option, option_map, option_and_then, sym, ap, ◌&&◌, Bool, true, false, List, None, Some, length, if◌then◌else◌, nat_le, nat_lt, refl, arith}
use Rattle.std.proofs.lemmas.Bool.Decides.{nat_tests}
use Rattle.std.proofs.lemmas.Str.Parse.{IsNumeralModel, numerals_by_value, tells_all_ascii_digits}
use Rattle.std.specs.Str.{all_ascii_digits}
use Rattle.std.specs.Str.Parse.{IsNumeral, digits_value}
use Rattle.std.specs.Borrow.{Bor}
use Rattle.clap.proofs.WalkLemmas.{first_value-rows}
use Rattle.clap.specs.Words.{Text, first_value, rows_of}
use Rattle.clap.specs.declared.parser.matches.Found.{Found}
use Rattle.command_line.specs.Numbers.{are_digits, value_in, value_of}

-- the digits of numerals
digits : IsNumeralModel (λ ds. all_ascii_digits ds ≡ true) (digits_value 10)
digits = numerals_by_value _ tells_all_ascii_digits

are_digits-numeral : (ds : List ℕ) → IsNumeral 10 ds → are_digits ds ≡ true
are_digits-numeral ds numeral = let some : nat_lt 0 (length ds) ≡ true = (let more = numeral.0 in grind (arith, nat_tests)) in rw some (digits.from ds numeral.1)

numeral_of_digits : (ds : List ℕ) → are_digits ds ≡ true → IsNumeral 10 ds
numeral_of_digits ds are = by_length (nat_lt 0 (length ds)) refl are where
  by_length : (b : Bool) → nat_lt 0 (length ds) ≡ b → (b && all_ascii_digits ds) ≡ true → IsNumeral 10 ds
  by_length true some pass = ((grind (arith, nat_tests)), digits.to ds pass)
  by_length false none pass = absurd (let bad : false ≡ true = pass in cc)

pub value_in-some : (least most : ℕ) (ds : List ℕ) → IsNumeral 10 ds → least ≤ digits_value 10 ds → digits_value 10 ds ≤ most → value_in least most ds ≡ Some (digits_value 10 ds)
value_in-some least most ds numeral low high =
    let above : nat_le least (digits_value 10 ds) ≡ true = grind (arith, nat_tests) in
    let below : nat_le (digits_value 10 ds) most ≡ true = grind (arith, nat_tests) in
    rw (are_digits-numeral ds numeral, above, below) refl

pub value_in-none : (least most : ℕ) (ds : List ℕ) → ¬ (IsNumeral 10 ds × ((least ≤ digits_value 10 ds) × (digits_value 10 ds ≤ most))) → value_in least most ds ≡ None
value_in-none least most ds refused = by_tests (are_digits ds) refl (nat_le least (digits_value 10 ds)) refl (nat_le (digits_value 10 ds) most) refl where
  by_tests : (a : Bool) → are_digits ds ≡ a → (b : Bool) → nat_le least (digits_value 10 ds) ≡ b → (c : Bool) → nat_le (digits_value 10 ds) most ≡ c
      → (if a && b && c then Some (digits_value 10 ds) else None) ≡ None
  by_tests false e b f c g = refl
  by_tests true e false f c g = refl
  by_tests true e true f false g = refl
  by_tests true e true f true g = absurd (refused (numeral_of_digits ds e, ((grind (arith, nat_tests)), (grind (arith, nat_tests)))))

pub value_in-range : (least most : ℕ) (ds : List ℕ) (n : ℕ) → value_in least most ds ≡ Some n → (least ≤ n) × (n ≤ most)
value_in-range least most ds n is = by_tests (are_digits ds) (nat_le least (digits_value 10 ds)) refl (nat_le (digits_value 10 ds) most) refl is where
  by_tests : (a b : Bool) → nat_le least (digits_value 10 ds) ≡ b → (c : Bool) → nat_le (digits_value 10 ds) most ≡ c
      → (if a && b && c then Some (digits_value 10 ds) else None) ≡ Some n → (least ≤ n) × (n ≤ most)
  by_tests false b low c high e = absurd (let bad : None ≡ Some n = e in cc)
  by_tests true false low c high e = absurd (let bad : None ≡ Some n = e in cc)
  by_tests true true low false high e = absurd (let bad : None ≡ Some n = e in cc)
  by_tests true true low true high e =
      let same : digits_value 10 ds ≡ n = (let some : Some (digits_value 10 ds) ≡ Some n = e in cc) in
      let above : least ≤ digits_value 10 ds = grind (arith, nat_tests) in
      let below : digits_value 10 ds ≤ most = grind (arith, nat_tests) in
      ((omega arith), (omega arith))

-- the value of an option is what is read of the text that the matches give
pub value_of-text : {A : Type 0} (read : Text → Option A) (f : Found) (id : Text) (o : Option (Bor Text))
    → option_map (λ s. s.now) o ≡ first_value f id → value_of read id (rows_of f) ≡ option_and_then read (option_map (λ s. s.now) o)
value_of-text read f id o is = ap (option_and_then read) (sym (first_value-rows f id) ∙ sym is)
