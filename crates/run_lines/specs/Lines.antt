-- The lines of a script: the whole text, for a terminal of so many columns.
use Rattle.std.specs.Prelude.{◌≡◌, ℕ, ◌+◌, ◌-◌, ◌*◌, ◌/◌, ◌%◌, ◌≤◌, ◌&&◌, ◌==◌, nat_lt, nat_le, if◌then◌else◌, List, [], ◌∷◌, ◌++◌, length, map, take, drop, replicate, Option, None, Some, codes, refl}
use Rattle.run_lines.specs.Vocabulary.{flat_map, suffix_len, decimal, digits, Places, AreApart, AreShown, Meaning, Remark, Heading, Note, PlacedRemark, Dot, Cell, EraMarks, RunMarks, cell_name, cell_words, cell_state, name_text, title_text, lines_of, Numbering, Block, Stroke, Kind, scripts_of, Range, chosen, chosen_remarks, marks_of_session, IsSubjectOf}
use Rattle.run_lines.specs.Parts.{numbering_after, no_notes, parts_of_run}
use Rattle.run_lines.specs.Canvas.{outline_of, rows_of}

-- ---- lines of text

-- a line and its end
abbrev pub ended : List ℕ → List ℕ
ended line = line ++ 10 ∷ []

-- a text in lines of at most so many letters
abbrev pub wrapped : (columns : ℕ) → List ℕ → List ℕ
wrapped columns text = flat_map ended (lines_of 200 columns text)

-- a text with blanks up to a width
abbrev pub padded : (width : ℕ) → List ℕ → List ℕ
padded width text = text ++ replicate (width - length text) 32

-- a text without the blanks at its end
abbrev pub trimmed : List ℕ → List ℕ
trimmed text = take (length text - suffix_len (λ letter. letter == 32) text) text

-- ---- above the lanes

-- a note before the header
abbrev pub heading_text : (columns : ℕ) → Remark → List ℕ
heading_text columns (Heading text) = wrapped columns text.items
heading_text columns _ = []

abbrev pub headings_text : (columns : ℕ) → List PlacedRemark → List ℕ
headings_text columns remarks = flat_map (λ one. heading_text columns one.remark) remarks

-- ---- rows

-- what stands before a row: the name of its process, before the row of its bars, where so many lanes have names there
abbrev pub row_name : (named row : ℕ) → List ℕ
row_name named row = if nat_le 2 row && (row - 2) % 4 == 1 && nat_lt ((row - 2) / 4) named then name_text ((row - 2) / 4) else []

-- a line, which above the lanes is left out where it is empty
abbrev pub shown_line : (row : ℕ) → List ℕ → List ℕ
shown_line row line = if nat_lt row 2 && length line == 0 then [] else ended line

-- a row behind its name, without the blanks at its end; above the lanes a blank one is left out
unfoldable pub row_text : (named row : ℕ) → List ℕ → List ℕ
row_text named row letters = shown_line row (trimmed (padded 4 (row_name named row) ++ letters))

-- ---- blocks

-- the row after those of so many lanes
abbrev pub bottom_row : (lanes : ℕ) → ℕ
bottom_row lanes = 2 + lanes * 4

-- blocks stand side by side, from a column to another: each begins where the one before it ends
abbrev pub AreSide : (from to : ℕ) → List Block → Type 0
AreSide from to [] = to ≤ from
AreSide from to (block ∷ blocks) = (block.from ≡ from) × AreSide block.to to blocks

-- the letters of a row in a block
abbrev pub part_of : Block → List ℕ → List ℕ
part_of block letters = take (block.to - block.from) (drop block.from letters)

-- the rows of a block, from a row on
abbrev pub rows_text : Block → (row : ℕ) → List (List ℕ) → List ℕ
rows_text block row [] = []
rows_text block row (letters ∷ rows) = row_text block.named row (part_of block letters) ++ rows_text block (row + 1) rows

-- a block, with a blank line before it
unfoldable pub block_text : List (List ℕ) → Block → List ℕ
block_text rows block = 10 ∷ rows_text block 0 (take (bottom_row block.lanes) rows)

-- ---- below the lanes

-- a note after the header, with its number, in lines; nothing of one that is empty
abbrev pub numbered_note : (columns number : ℕ) → List ℕ → List ℕ
numbered_note columns number text =
    if length text == 0 then [] else wrapped columns (codes "note " ++ decimal number ++ codes ": " ++ text)

abbrev pub note_text : (columns number : ℕ) → Remark → List ℕ
note_text columns number (Note text) = numbered_note columns number text.items
note_text columns number _ = []

abbrev pub notes_from : (columns : ℕ) → Numbering → List PlacedRemark → List ℕ
notes_from columns numbering [] = []
notes_from columns numbering (one ∷ remarks) =
    let next = numbering_after numbering one in note_text columns next.number one.remark ++ notes_from columns next remarks

-- the state after a cell, where it is short
abbrev pub state_text : Option (List ℕ) → List ℕ
state_text (Some state) = codes ", " ++ state
state_text None = []

-- a cell of an era, in lines
abbrev pub cell_line : List Dot → Cell → List ℕ
cell_line dots cell = codes "  " ++ cell_name dots cell ++ codes " " ++ cell_words cell ++ state_text (cell_state cell)

abbrev pub cell_text : (columns : ℕ) → List Dot → Cell → List ℕ
cell_text columns dots cell = wrapped columns (cell_line dots cell)

-- an era, by its place from 0, with its anchor and its cells
abbrev pub era_text : (columns : ℕ) → List Dot → (place : ℕ) → EraMarks → List ℕ
era_text columns dots place era =
    ended (codes "era " ++ decimal (place + 1) ++ codes ", after the anchor " ++ decimal era.anchor ++ codes ":")
    ++ flat_map (cell_text columns dots) era.cells

abbrev pub eras_from : (columns : ℕ) → List Dot → (place : ℕ) → List EraMarks → List ℕ
eras_from columns dots place [] = []
eras_from columns dots place (era ∷ eras) = era_text columns dots place era ++ eras_from columns dots (place + 1) eras

-- ---- the whole text

-- the rows, block by block, and a blank line
abbrev pub rows_text_of : Places → List Stroke → List Block → List ℕ
rows_text_of places strokes blocks = flat_map (block_text (rows_of strokes places.width places.height)) blocks ++ 10 ∷ []

-- strokes are these, each once and in order, in the columns of their events and the lanes of their processes; blocks show all columns
pub record ShowsRows (places : Places) (parts : List Meaning) (strokes : List Stroke) (blocks : List Block) : Type 0 where
  pub apart : AreApart places
  pub shown : AreShown places parts (map outline_of strokes)
  pub side : AreSide 0 places.width blocks

-- a text has the title and the headings, then these rows, the notes and the eras, and ends with a legend
pub record HasText (columns : ℕ) (marks : RunMarks) (remarks : List PlacedRemark) (rows text : List ℕ) : Type 0 where
  pub legend : List ℕ
  pub parts : text ≡ wrapped columns (title_text marks) ++ headings_text columns remarks ++ rows
      ++ notes_from columns no_notes remarks ++ eras_from columns marks.dots 0 marks.eras ++ legend

-- a text of marks, with what is told beside them: its rows show the signs of both
pub record IsTextOf (columns : ℕ) (marks : RunMarks) (remarks : List PlacedRemark) (text : List ℕ) : Type 0 where
  pub places : Places
  pub strokes : List Stroke
  pub blocks : List Block
  pub shown : ShowsRows places (parts_of_run marks remarks) strokes blocks
  pub whole : HasText columns marks remarks (rows_text_of places strokes blocks) text

-- a row of bars has its name; a row without letters is blank, and above the lanes left out
fourth_row : row_text 1 3 (codes "[AH  ") ≡ codes "P0  [AH\n"
unfolding row_text digits
fourth_row = refl

row_of_ten : row_text 11 43 (codes "x") ≡ codes "P10 x\n"
unfolding row_text digits
row_of_ten = refl

blank_row : row_text 1 4 (codes "   ") ≡ codes "\n"
unfolding row_text digits
blank_row = refl

row_left_out : row_text 1 1 (codes "   ") ≡ []
unfolding row_text digits
row_left_out = refl

-- ---- the lines of a script

-- the reader had a script that can be drawn, and this text draws its marks and what it tells in so many columns, where these events are
-- chosen
pub record IsLinesOf {B : Type 0} (kind : Kind B) (marks_in : B → RunMarks) (range : Range) (columns : ℕ) (left : Option (List ℕ))
    (text : List ℕ) : Type 0 where
  pub marks : RunMarks
  pub remarks : List PlacedRemark
  pub subject : IsSubjectOf kind marks_in range left marks remarks
  pub drawn : IsTextOf columns (chosen range marks) (chosen_remarks range remarks) text

-- the same of a script over the named objects
abbrev pub IsLines : Range → (columns : ℕ) → (left : Option (List ℕ)) (text : List ℕ) → Type 0
IsLines range columns left text = IsLinesOf (scripts_of 1048576) marks_of_session range columns left text
