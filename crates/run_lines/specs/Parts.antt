-- The strokes that the rows of a text are to have, sign by sign, from the lowest on, and the numbers of notes.
use Rattle.std.specs.Prelude.{ℕ, ◌+◌, ◌==◌, if◌then◌else◌, Option, Some, None, ◌≡◌, not, Bool, true, false, List, [], ◌∷◌, ◌++◌, codes, refl}
use Rattle.run_lines.specs.Vocabulary.{Remark, Note, PlacedRemark, Numbering, filter, flat_map, option_map_or, decimal, After, Meaning, StepKind, DecideAfter, RunMarks, Mark, Sign, after_events, part, signs_of, letter_of}
use Rattle.signs.specs.declared.sign.Look.TheVariants as look
use Rattle.run_layout.specs.declared.marked.Mark.TheVariants as mark

-- ---- the numbers of notes

abbrev pub no_notes : Numbering
no_notes = record { number = 0; last = None }

-- the number of a note with so many events before it: that of the note just told, where no event stands between them, or the next one
abbrev pub note_number : Numbering → (before : ℕ) → ℕ
note_number numbering before =
    option_map_or (λ last. if last == before then numbering.number else numbering.number + 1) numbering.last (numbering.number + 1)

-- the numbering after one more remark: what is no note ends the run of notes that have one number
abbrev pub numbered : Numbering → (before : ℕ) → Remark → Numbering
numbered numbering before (Note text) = record { number = note_number numbering before; last = Some before }
numbered numbering before _ = record { number = numbering.number; last = None }

abbrev pub numbering_after : Numbering → PlacedRemark → Numbering
numbering_after numbering one = numbered numbering one.before one.remark

-- ---- strokes

-- the letter of a step: a small one where the step changed nothing
abbrev pub step_letter : StepKind → (changed : Bool) → ℕ
step_letter kind changed = if changed then letter_of kind else letter_of kind + 32

abbrev pub parts_for : Sign → Mark → List Meaning
parts_for sign mark.End = part look.End sign [] ∷ part look.Text sign sign.text ∷ []
parts_for sign mark.Bar = part look.Bar sign [] ∷ []
parts_for sign mark.Open = part look.Bar sign [] ∷ []
parts_for sign mark.Down = part look.Arrow sign [] ∷ []
parts_for sign mark.Up = part look.Arrow sign [] ∷ []
parts_for sign (mark.Step kind changed) = part look.Text sign (step_letter kind changed ∷ []) ∷ []
parts_for sign mark.Dot = part look.Text sign (codes "*") ∷ []
parts_for sign mark.Refusal = part look.Text sign (120 ∷ 32 ∷ sign.text) ∷ []
parts_for sign _ = part look.Text sign sign.text ∷ []

abbrev pub parts_of : Sign → List Meaning
parts_of sign = parts_for sign sign.mark

-- arrows are behind all else, and are painted last
abbrev pub is_arrow : Mark → Bool
is_arrow mark.Down = true
is_arrow mark.Up = true
is_arrow _ = false

abbrev pub layered : List Sign → List Sign
layered signs = filter (λ sign. not (is_arrow sign.mark)) signs ++ filter (λ sign. is_arrow sign.mark) signs

-- the number of a note, from where so many events are over to where the next one is
abbrev pub number_parts : (number before : ℕ) → Remark → List Meaning
number_parts number before (Note text) =
    record { look = look.Text; columns = (after_events before, After before); lanes = None; text = decimal number } ∷ []
number_parts number before _ = []

abbrev pub numbers_from : Numbering → List PlacedRemark → List Meaning
numbers_from numbering [] = []
numbers_from numbering (one ∷ remarks) =
    let next = numbering_after numbering one in number_parts next.number one.before one.remark ++ numbers_from next remarks

-- all of them
abbrev pub parts_of_run : RunMarks → List PlacedRemark → List Meaning
parts_of_run marks remarks = flat_map parts_of (layered (signs_of marks remarks)) ++ numbers_from no_notes remarks

-- a proposal that won, and one that lost
letters_of_two : step_letter DecideAfter true ∷ step_letter DecideAfter false ∷ [] ≡ codes "Ll"
letters_of_two = refl
