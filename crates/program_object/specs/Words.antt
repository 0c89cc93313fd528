-- Instructions as numbers: five words each.
use Rattle.std.specs.Prelude.{◌≡◌, ℕ, ◌+◌, ◌*◌, ◌/◌, ◌%◌, ◌<◌, ◌==◌, if◌then◌else◌}
use Rattle.std.specs.Prelude.{List, length, slice_get, slice_index, Option, Some, None, IsSome, option_map, refl}
use Rattle.program_object.specs.declared.instruction.Area.{Area}
use Rattle.program_object.specs.declared.instruction.Area.TheVariants.{State, Invocation, Reply}
use Rattle.program_object.specs.declared.instruction.Place.{Place}
use Rattle.program_object.specs.declared.instruction.Place.TheVariants.{Fixed, By}
use Rattle.program_object.specs.declared.instruction.Checked.{Checked}
use Rattle.program_object.specs.declared.instruction.Checked.TheVariants.{Add, Subtract, Multiply, Divide, Remainder}
use Rattle.program_object.specs.declared.instruction.Modular.{Modular}
use Rattle.program_object.specs.declared.instruction.Modular.TheVariants.{Sum, Difference, Product}
use Rattle.program_object.specs.declared.instruction.Test.{Test}
use Rattle.program_object.specs.declared.instruction.Test.TheVariants.{Always, Equal, NotEqual, Less, AtMost}
use Rattle.program_object.specs.declared.instruction.Instruction.{Instruction}
use Rattle.program_object.specs.declared.instruction.Instruction.TheVariants.{Set, Load, Store, Answer, Compute, Wrap, Jump, Again}

abbrev pub area_of : ℕ → Option Area
area_of k = if k == 0 then Some State else if k == 1 then Some Invocation else if k == 2 then Some Reply else None

-- an even number says that the word is the place, and an odd one that it is a register
abbrev pub place_of : (k word : ℕ) → Place
place_of k word = if k % 2 == 0 then Fixed word else By word

abbrev pub checked_of : ℕ → Option Checked
checked_of k =
    if k == 0 then Some Add else if k == 1 then Some Subtract else if k == 2 then Some Multiply
    else if k == 3 then Some Divide else if k == 4 then Some Remainder else None

abbrev pub modular_of : ℕ → Option Modular
modular_of k = if k == 0 then Some Sum else if k == 1 then Some Difference else if k == 2 then Some Product else None

abbrev pub test_of : ℕ → Option Test
test_of k =
    if k == 0 then Some Always else if k == 1 then Some Equal else if k == 2 then Some NotEqual
    else if k == 3 then Some Less else if k == 4 then Some AtMost else None

abbrev pub stored : (k to left otherwise : ℕ) → Option Instruction
stored k to left otherwise =
    if k / 2 == 0 then Some (Store (place_of k to) left otherwise)
    else if k / 2 == 1 then Some (Answer (place_of k to) left otherwise) else None

-- an operation is 16 times a family, and one of the family
abbrev pub decoded_by : (family k to left right otherwise : ℕ) → Option Instruction
decoded_by family k to left right otherwise =
    if family == 1 then (if k == 0 then Some (Set to left) else None)
    else if family == 2 then option_map (λ from. Load from (place_of k left) to otherwise) (area_of (k / 2))
    else if family == 3 then stored k to left otherwise
    else if family == 4 then option_map (λ by. Compute by to left right otherwise) (checked_of k)
    else if family == 5 then option_map (λ by. Wrap by to left right) (modular_of k)
    else if family == 6 then option_map (λ when. Jump when left right to) (test_of k)
    else if family == 7 then (if k == 0 then Some (Again to left right) else None)
    else None

unfoldable pub decoded : (operation to left right otherwise : ℕ) → Option Instruction
decoded operation to left right otherwise = decoded_by (operation / 16) (operation % 16) to left right otherwise

-- the instruction of a number that words spell
abbrev pub spelled_at : (words : List ℕ) → (number : ℕ) → Option Instruction
spelled_at words number =
    decoded (slice_index words (5 * number)) (slice_index words (5 * number + 1)) (slice_index words (5 * number + 2))
    (slice_index words (5 * number + 3)) (slice_index words (5 * number + 4))

-- each five words spell an instruction, and none are left over
pub record AreKnown (words : List ℕ) : Type 0 where
  pub whole : length words % 5 ≡ 0
  pub each : (number : ℕ) → number < length words / 5 → IsSome (spelled_at words number)

-- the first number at which words spell no instruction, or not all its words are there
pub record IsFirstUnknown (words : List ℕ) (number : ℕ) : Type 0 where
  pub inside : 5 * number < length words
  pub unknown : 5 * number + 4 < length words → spelled_at words number ≡ None
  pub known : (earlier : ℕ) → earlier < number → IsSome (spelled_at words earlier)

-- words spell these instructions
pub record AreSpelled (words : List ℕ) (instructions : List Instruction) : Type 0 where
  pub whole : length words ≡ 5 * length instructions
  pub each : (number : ℕ) → number < length instructions → spelled_at words number ≡ slice_get instructions number

sample_set : decoded 16 3 7 0 0 ≡ Some (Set 3 7)
unfolding decoded
sample_set = refl

sample_load : decoded 35 3 7 0 9 ≡ Some (Load Invocation (By 7) 3 9)
unfolding decoded
sample_load = refl

sample_answer : decoded 50 2 7 0 9 ≡ Some (Answer (Fixed 2) 7 9)
unfolding decoded
sample_answer = refl

sample_compute : decoded 65 1 2 3 9 ≡ Some (Compute Subtract 1 2 3 9)
unfolding decoded
sample_compute = refl

sample_wrap : decoded 82 1 2 3 0 ≡ Some (Wrap Product 1 2 3)
unfolding decoded
sample_wrap = refl

sample_jump : decoded 99 9 2 3 0 ≡ Some (Jump Less 2 3 9)
unfolding decoded
sample_jump = refl

sample_again : decoded 112 0 8 1 0 ≡ Some (Again 0 8 1)
unfolding decoded
sample_again = refl

sample_unknown : decoded 0 0 0 0 0 ≡ None
unfolding decoded
sample_unknown = refl

sample_past : decoded 69 0 0 0 0 ≡ None
unfolding decoded
sample_past = refl
