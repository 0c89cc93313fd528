-- The map: its state is its parts, each the list of its pairs of a text and a number, in order of insertion.
use Rattle.std.specs.Prelude.{◌≡◌, ℕ, ◌+◌, ◌*◌, ◌%◌, if◌then◌else◌, List, [], ◌∷◌, ◌++◌, Option, None, Some}
use Rattle.std.specs.Prelude.{codes, is_some, refl, replicate, slice_index_or, slice_set}
use Rattle.std.specs.List.{fold}
use Rattle.std.specs.Map.{lookup, remove_entry, set_value}
use Rattle.std.specs.Str.{bytes_eq}
use Rattle.seq_object.specs.Sequential.{Sequential}
use Rattle.parted_map.specs.declared.MapInv.{MapInv}
use Rattle.parted_map.specs.declared.MapInv.TheVariants.{Get, Insert, Remove}

abbrev pub Part : Type 0
Part = List (List ℕ × ℕ)

-- which of the 32 parts a text is in
abbrev pub part_of : (text : List ℕ) → ℕ
part_of text = fold (λ sum byte. (sum * 5 + byte) % 32) 0 text

-- the part of a text, and the number that it has there, if it has one
abbrev pub part_in : List Part → (text : List ℕ) → Part
part_in parts text = slice_index_or parts (part_of text) []

abbrev pub number_in : List Part → (text : List ℕ) → Option ℕ
number_in parts text = lookup (bytes_eq text) (part_in parts text)

-- a part in which a text has this number
abbrev pub put : Part → (text : List ℕ) (number : ℕ) → Part
put part text number =
    if is_some (lookup (bytes_eq text) part) then set_value (bytes_eq text) part number else part ++ (text, number) ∷ []

abbrev pub map_next : List Part → MapInv → List Part
map_next parts (Get text) = parts
map_next parts (Insert text number) = slice_set parts (part_of text) (put (part_in parts text) text number)
map_next parts (Remove text) = slice_set parts (part_of text) (remove_entry (bytes_eq text) (part_in parts text))

-- each is answered with the number that its text had
abbrev pub map_answer : List Part → MapInv → Option ℕ
map_answer parts (Get text) = number_in parts text
map_answer parts (Insert text number) = number_in parts text
map_answer parts (Remove text) = number_in parts text

abbrev pub parted_map : Sequential (List Part) MapInv (Option ℕ)
parted_map = record { initial = replicate 32 []; next = map_next; answer = map_answer }

-- a text that is inserted twice has the second number
sample : number_in (map_next (map_next (replicate 32 []) (Insert (codes "ab") 7)) (Insert (codes "ab") 8)) (codes "ab") ≡ Some 8
sample = refl

-- and one that is taken out has none
sample_removed : number_in (map_next (map_next (replicate 32 []) (Insert (codes "ab") 7)) (Remove (codes "ab"))) (codes "ab") ≡ None
sample_removed = refl
