-- JSON, as text.
use Rattle.std.specs.Prelude.{Bool, List, None, Option, Some, [], codes, decimal, false, flat_map, if◌then◌else◌, map, nat_lt, option_map, refl, true, ℕ, ◌%◌, ◌++◌, ◌+◌, ◌-◌, ◌/◌, ◌==◌, ◌∷◌, ◌≡◌}
use Rattle.run_tell.specs.Vocabulary.{digits}
use Rattle.run_tell.specs.declared.value.Member.{Member as MemberOfCode}
use Rattle.run_tell.specs.declared.value.Value.{Value as ValueOfCode}
use Rattle.run_tell.specs.declared.value.Value.TheVariants as code

-- ---- strings

abbrev pub hex_digit : ℕ → ℕ
hex_digit d = if nat_lt d 10 then 48 + d else 97 + (d - 10)

-- a control byte, by its code
abbrev pub code_text : ℕ → List ℕ
code_text b = codes "\\u00" ++ hex_digit (b / 16) ∷ hex_digit (b % 16) ∷ []

-- a byte of a string
abbrev pub escaped_byte : ℕ → List ℕ
escaped_byte b =
    if b == 34 then codes "\\\""
    else if b == 92 then codes "\\\\"
    else if nat_lt b 32 then code_text b
    else b ∷ []

abbrev pub escaped : List ℕ → List ℕ
escaped text = flat_map escaped_byte text

-- a string
abbrev pub quoted : List ℕ → List ℕ
quoted text = codes "\"" ++ escaped text ++ codes "\""

-- a string, or else `null`
abbrev pub text_or_null : Option (List ℕ) → List ℕ
text_or_null None = codes "null"
text_or_null (Some text) = quoted text

-- ---- values

-- a number, a string, `true` or `false`, a number or else `null`, a string or else `null`, or a value whose text is there already
pub data Value : Type 0 where
  Number : ℕ → Value
  Text : List ℕ → Value
  Flag : Bool → Value
  MaybeNumber : Option ℕ → Value
  MaybeText : Option (List ℕ) → Value
  Json : List ℕ → Value

pub record Member : Type 0 where
  pub name : List ℕ
  pub value : Value

abbrev pub named : (name : List ℕ) → Value → Member
named name value = record { name = name; value = value }

abbrev pub value_text : Value → List ℕ
value_text (Number n) = decimal n
value_text (Text text) = quoted text
value_text (Flag true) = codes "true"
value_text (Flag false) = codes "false"
value_text (MaybeNumber None) = codes "null"
value_text (MaybeNumber (Some n)) = decimal n
value_text (MaybeText text) = text_or_null text
value_text (Json text) = text

abbrev pub member_text : Member → List ℕ
member_text m = quoted m.name ++ codes ":" ++ value_text m.value

-- ---- objects and lists

-- a text with a comma before it
abbrev pub after_comma : List ℕ → List ℕ
after_comma text = codes "," ++ text

-- texts with commas between them
abbrev pub separated : List (List ℕ) → List ℕ
separated [] = []
separated (first ∷ more) = first ++ flat_map after_comma more

-- an object with these members
unfoldable pub object_text : List Member → List ℕ
object_text members = codes "{" ++ separated (map member_text members) ++ codes "}"

-- a list of elements with these texts
unfoldable pub list_text : List (List ℕ) → List ℕ
list_text elements = codes "[" ++ separated elements ++ codes "]"

-- a quote, a backslash and a control byte
escaped_string : quoted (codes "a\"\\\n") ≡ codes "\"a\\\"\\\\\\u000a\""
escaped_string = refl

last_control_byte : escaped_byte 31 ≡ codes "\\u001f"
last_control_byte = refl

-- an object of no member, one of each value, and a list
no_member : object_text [] ≡ codes "{}"
unfolding object_text
no_member = refl

each_value : object_text (named (codes "a") (Number 10) ∷ named (codes "b") (Text (codes "c")) ∷ named (codes "d") (Flag true)
    ∷ named (codes "e") (Flag false) ∷ named (codes "f") (Json (list_text [])) ∷ [])
    ≡ codes "{\"a\":10,\"b\":\"c\",\"d\":true,\"e\":false,\"f\":[]}"
unfolding object_text list_text digits
each_value = refl

values_that_may_be_missing : object_text (named (codes "a") (MaybeNumber None) ∷ named (codes "b") (MaybeNumber (Some 7))
    ∷ named (codes "c") (MaybeText None) ∷ named (codes "d") (MaybeText (Some (codes "e"))) ∷ [])
    ≡ codes "{\"a\":null,\"b\":7,\"c\":null,\"d\":\"e\"}"
unfolding object_text digits
values_that_may_be_missing = refl

two_elements : list_text (codes "1" ∷ object_text [] ∷ []) ≡ codes "[1,{}]"
unfolding object_text list_text
two_elements = refl

abbrev pub value_shown : ValueOfCode → Value
value_shown (code.Number n) = Number n
value_shown (code.Text text) = Text text.now
value_shown (code.Flag flag) = Flag flag
value_shown (code.MaybeNumber n) = MaybeNumber n
value_shown (code.MaybeText text) = MaybeText (option_map (λ t. t.items) text.now)
value_shown (code.Json text) = Json text.now

abbrev pub member_shown : MemberOfCode → Member
member_shown m = named m.0.now (value_shown m.1)
