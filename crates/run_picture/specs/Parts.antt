-- The shapes that the strip of an SVG is to have, sign by sign, from the lowest on, and those of the boxes of cells.
use Rattle.std.specs.Prelude.{◌≡◌, ℕ, ◌+◌, ◌==◌, if◌then◌else◌, Bool, true, false, List, [], ◌∷◌, ◌++◌, map, Some, None, option_map, codes, refl}
use Rattle.run_picture.specs.Vocabulary.{decimal, option_map_or, Look, Meaning, Dot, Cell, EraMarks, Mark, Sign, part, part_in, cell_name, cell_state, cell_words, letter_of}
use Rattle.signs.specs.declared.sign.Look.TheVariants as look
use Rattle.signs.specs.declared.sign.Edge.TheVariants as edge
use Rattle.run_layout.specs.declared.marked.Mark.TheVariants as mark

-- a mark of a step is pale where the step changed nothing
abbrev pub step_look : (changed : Bool) → Look
step_look true = look.Step
step_look false = look.Pale

-- the tip of an arrow is in the lane of the call that is helped: the lower one, or the upper one; names, labels and counts are texts
abbrev pub parts_for : Sign → Mark → List Meaning
parts_for sign mark.End = part look.End sign [] ∷ part look.Text sign sign.text ∷ []
parts_for sign mark.Bar = part look.Bar sign [] ∷ []
parts_for sign mark.Open = part look.Edge sign [] ∷ part look.Edge sign [] ∷ part look.Edge sign [] ∷ []
parts_for sign mark.Down = part look.Arrow sign [] ∷ part_in (option_map (λ l. (l.1, l.1)) sign.lanes) look.Tip sign [] ∷ []
parts_for sign mark.Up = part look.Arrow sign [] ∷ part_in (option_map (λ l. (l.0, l.0)) sign.lanes) look.Tip sign [] ∷ []
parts_for sign (mark.Step kind changed) = part (step_look changed) sign sign.text ∷ part look.Text sign (letter_of kind ∷ []) ∷ []
parts_for sign mark.Dot = part look.Dot sign [] ∷ []
parts_for sign mark.Refusal = part look.Cross sign [] ∷ part look.Cross sign [] ∷ part look.Text sign sign.text ∷ []
parts_for sign _ = part look.Text sign sign.text ∷ []

abbrev pub parts_of : Sign → List Meaning
parts_of sign = parts_for sign sign.mark

-- ---- the boxes of cells, which stand in no column

abbrev pub anywhere : Look → (text : List ℕ) → Meaning
anywhere look text = record { look = look; columns = (edge.Start, edge.End); lanes = None; text = text }

-- a box with lines of text
abbrev pub box_parts : List (List ℕ) → List Meaning
box_parts lines = anywhere look.Bar [] ∷ map (anywhere look.Text) lines

-- a cell: its number and its call, its words and its reply, and where it is settled the state after it
abbrev pub cell_lines : List Dot → Cell → List (List ℕ)
cell_lines dots cell = cell_name dots cell ∷ cell_words cell ∷ option_map_or (λ state. state ∷ []) (cell_state cell) []

-- whether a cell of this number is the next one in the list after that of another
abbrev pub is_next : (before number : ℕ) → Bool
is_next before number = number == before + 1

-- a break on the arrow to a cell, where the cell before it in the list isn't drawn
abbrev pub break_parts : (before number : ℕ) → List Meaning
break_parts before number = if is_next before number then [] else anywhere look.Text (codes "..") ∷ []

-- its box, with the arrow to it from the box of this number
abbrev pub cell_parts : List Dot → (before : ℕ) → Cell → List Meaning
cell_parts dots before cell =
    anywhere look.Arrow [] ∷ anywhere look.Tip [] ∷ break_parts before cell.number ++ box_parts (cell_lines dots cell)

-- cells in the order of the list, after the box of this number
abbrev pub cells_from : List Dot → (before : ℕ) → List Cell → List Meaning
cells_from dots before [] = []
cells_from dots before (cell ∷ cells) = cell_parts dots before cell ++ cells_from dots cell.number cells

abbrev pub anchor_lines : (anchor : ℕ) → List (List ℕ)
anchor_lines anchor = (decimal anchor ++ codes ":") ∷ codes "anchor" ∷ []

-- an era, by its place from 0: its name, its anchor, and its cells in the order of the list
abbrev pub era_name : (place : ℕ) → List ℕ
era_name place = codes "era " ++ decimal (place + 1)

abbrev pub era_parts : List Dot → (place : ℕ) → EraMarks → List Meaning
era_parts dots place era =
    anywhere look.Text (era_name place) ∷ box_parts (anchor_lines era.anchor) ++ cells_from dots era.anchor era.cells

abbrev pub eras_from : List Dot → (place : ℕ) → List EraMarks → List Meaning
eras_from dots place [] = []
eras_from dots place (era ∷ eras) = era_parts dots place era ++ eras_from dots (place + 1) eras

-- an arrow of help up from process 2 to process 1 has its tip in the lane of process 1
abbrev up_of_two : Sign
up_of_two = record { mark = mark.Up; columns = (edge.Before 7, edge.After 7); lanes = Some (1, 2); text = [] }

tip_of_up : map (λ p. p.lanes) (parts_of up_of_two) ≡ Some (1, 2) ∷ Some (1, 1) ∷ []
tip_of_up = refl

-- after the anchor 1 an arrow leads to cell 2, and a broken one to cell 3
break_before_the_third : break_parts 1 2 ∷ break_parts 1 3 ∷ [] ≡ [] ∷ (anywhere look.Text (codes "..") ∷ []) ∷ []
break_before_the_third = refl
