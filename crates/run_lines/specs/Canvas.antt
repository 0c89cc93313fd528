-- Rows of letters, upon which strokes are put one after the other.
use Rattle.std.specs.Prelude.{◌≡◌, ℕ, ◌+◌, ◌-◌, ◌==◌, ◌&&◌, ◌||◌, if◌then◌else◌, nat_le, nat_lt, Bool, List, [], ◌∷◌, ◌++◌, length, map, fold, slice_index, Some, Vec, codes, refl}
use Rattle.run_lines.specs.Vocabulary.{range_with_len, Global, Look, Outline, Ink, Text, Bar, Line, Arrow, Stroke}
use Rattle.signs.specs.declared.sign.Look.TheVariants as look

-- a stroke stands in each row from `top` to before `bottom`, from a column on: a text, a bar that is so wide, a line, or the line of an
-- arrow, which is behind what stands there

-- how many letters it has, and each of them
abbrev pub width_of : Ink → ℕ
width_of (Text text) = length text.items
width_of (Bar width) = width
width_of _ = 1

abbrev pub letter_in : Ink → (place : ℕ) → ℕ
letter_in (Text text) place = slice_index text.items place
letter_in (Bar width) place = if place == 0 then 91 else 45
letter_in _ place = 124

-- the letter that is seen where two meet: one behind shows only through a blank and through the `-` of a bar
abbrev pub letter_seen : Ink → (under letter : ℕ) → ℕ
letter_seen Arrow under letter = if under == 32 || under == 45 then letter else under
letter_seen _ under letter = letter

-- the letter at a column of a row in which a stroke stands
abbrev pub letter_over : Stroke → (column under : ℕ) → ℕ
letter_over stroke column under =
    if nat_le stroke.column column && nat_lt column (stroke.column + width_of stroke.ink) then
    letter_seen stroke.ink under (letter_in stroke.ink (column - stroke.column)) else under

-- whether a stroke stands in a row
abbrev pub is_in_row : (row : ℕ) → Stroke → Bool
is_in_row row stroke = nat_le stroke.top row && nat_lt row stroke.bottom

-- the letter at a place after one more stroke
abbrev pub letter_after : (row column : ℕ) → (under : ℕ) → Stroke → ℕ
letter_after row column under stroke = if is_in_row row stroke then letter_over stroke column under else under

-- the letter at a row and a column after these strokes, each upon those before it and all upon a blank
unfoldable pub letter_at : List Stroke → (row column : ℕ) → ℕ
letter_at strokes row column = fold (letter_after row column) 32 strokes

-- a row of so many letters, and so many rows
abbrev pub row_of : List Stroke → (width row : ℕ) → List ℕ
row_of strokes width row = map (letter_at strokes row) (range_with_len 0 width)

unfoldable pub rows_of : List Stroke → (width count : ℕ) → List (List ℕ)
rows_of strokes width count = map (row_of strokes width) (range_with_len 0 count)

-- ---- what is looked at of a stroke

abbrev pub look_of : Ink → Look
look_of (Text text) = look.Text
look_of (Bar width) = look.Bar
look_of Line = look.End
look_of Arrow = look.Arrow

abbrev pub text_of : Ink → List ℕ
text_of (Text text) = text.items
text_of _ = []

-- the column after it, or after the first letter of a text
abbrev pub reach_of : Ink → ℕ
reach_of (Bar width) = width
reach_of _ = 1

abbrev pub right_of : Stroke → ℕ
right_of stroke = stroke.column + reach_of stroke.ink

abbrev pub outline_of : Stroke → Outline
outline_of stroke =
    record {
      look = Some (look_of stroke.ink);
      text = text_of stroke.ink;
      corners = (stroke.column, stroke.top) ∷ (right_of stroke, stroke.bottom) ∷ [];
    }

-- an open bar from column 1 on, then a letter upon it, then a line behind both in all rows
module _ (letter : Vec ℕ Global) (is_letter : letter.items ≡ codes "A") where
  abbrev three : List Stroke
  three =
      record { top = 1; bottom = 2; column = 1; ink = Bar 4 }
      ∷ record { top = 1; bottom = 2; column = 2; ink = Text letter }
      ∷ record { top = 0; bottom = 3; column = 3; ink = Arrow } ∷ []

  rows_of_three : rows_of three 5 3 ≡ codes "   | " ∷ codes " [A|-" ∷ codes "   | " ∷ []
  unfolding rows_of letter_at
  rows_of_three = rw is_letter refl

  -- what is behind a letter isn't seen
  letter_before_line : letter_at (three ++ record { top = 0; bottom = 3; column = 2; ink = Arrow } ∷ []) 1 2 ≡ 65
  unfolding letter_at
  letter_before_line = rw is_letter refl
