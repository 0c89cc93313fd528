-- What a script tells: its notes and the refusals of its commands, and of each event the line that stored it.
use Rattle.std.specs.Prelude.{◌≡◌, ℕ, ◌+◌, ◌-◌, ◌==◌, if◌then◌else◌, List, [], ◌∷◌, ◌++◌, Option, Some, None}
use Rattle.std.specs.Prelude.{option_map, replicate, codes, refl}
use Rattle.std.specs.Fmt.{digits}
use Rattle.ready_objects.specs.Number.{number_of_word}
use Rattle.ready_objects.specs.Words.{words_of_text}
use Rattle.uni_script.specs.declared.answer.Refusal.{Refusal}
use Rattle.uni_script.specs.declared.answer.Refusal.TheVariants.{Busy, Idle}
use Rattle.uni_script.specs.declared.remarks.Remark.{Remark}
use Rattle.uni_script.specs.declared.remarks.Remark.TheVariants as remark
use Rattle.uni_script.specs.declared.remarks.PlacedRemark.{PlacedRemark}
use Rattle.uni_script.specs.Grammar.{is_note, lines_of}
use Rattle.uni_script.specs.Outcome.{Kind, outcome_of_line}
use Rattle.uni_script.specs.Scripts.{scripts_of}

-- what a line says that is no event: a note before the header, one after it, or itself and why it was refused
pub data RemarkText : Type 0 where
  Heading : List ℕ → RemarkText
  Note : List ℕ → RemarkText
  Refused : (line : List ℕ) → Refusal → RemarkText

-- what is said, the number of the line that says it, and how many events come before it
pub record RemarkAt : Type 0 where
  pub line : ℕ
  pub before : ℕ
  pub text : RemarkText

-- what the code's remarks are
abbrev pub remark_text : Remark → RemarkText
remark_text (remark.Heading text) = Heading text.items
remark_text (remark.Note text) = Note text.items
remark_text (remark.Refused command refusal) = Refused command.items refusal

abbrev pub remark_at : PlacedRemark → RemarkAt
remark_at t = record { line = t.line; before = t.before; text = remark_text t.remark }

-- a text without this byte, where it begins with that
abbrev pub without : ℕ → List ℕ → List ℕ
without b [] = []
without b (c ∷ text) = if c == b then text else c ∷ text

-- the text of a note: without its `#` and one space after that
abbrev pub text_of_note : List ℕ → List ℕ
text_of_note line = without 32 (without 35 line)

-- what a line of this number tells that says this after so many events
abbrev pub remarks_after : (line before : ℕ) → Option RemarkText → List RemarkAt
remarks_after line before None = []
remarks_after line before (Some text) = record { line = line; before = before; text = text } ∷ []

-- what a note says, of this kind; an empty line says nothing
abbrev pub said_by_note : (List ℕ → RemarkText) → List ℕ → Option RemarkText
said_by_note kind [] = None
said_by_note kind (b ∷ note) = Some (kind (text_of_note (b ∷ note)))

-- what a note tells after so many events, or before the header
abbrev pub remarks_of_note : (line : ℕ) → Option ℕ → List ℕ → List RemarkAt
remarks_of_note line None note = remarks_after line 0 (said_by_note Heading note)
remarks_of_note line (Some before) note = remarks_after line before (said_by_note Note note)

-- what is heard of a script: its remarks, and for each event the number of the line that stored it
pub record Heard : Type 0 where
  pub remarks : List RemarkAt
  pub lines : List ℕ

abbrev pub nothing : Heard
nothing = record { remarks = []; lines = [] }

-- one thing after another
abbrev pub heard_then : (first second : Heard) → Heard
heard_then first second = record { remarks = first.remarks ++ second.remarks; lines = first.lines ++ second.lines }

-- remarks alone
abbrev pub heard_remarks : List RemarkAt → Heard
heard_remarks remarks = record { remarks = remarks; lines = [] }

-- so many events, stored by the line of this number
abbrev pub heard_events : (line count : ℕ) → Heard
heard_events line count = record { remarks = []; lines = replicate count line }

-- what was heard grew by this, where it is kept
abbrev pub HeardGrows : (old new : Option Heard) → Heard → Type 0
HeardGrows None new more = Unit {0}
HeardGrows (Some old) None more = ⊥
HeardGrows (Some old) (Some new) more = new ≡ heard_then old more

-- what a line before the header says, if it is a note
abbrev pub heading_of_line : List ℕ → Option RemarkText
heading_of_line line = if is_note line then said_by_note Heading line else None

module _ {B : Type 0} (kind : Kind B) where
  -- what a line after the header says that is no event, if anything
  abbrev pub remark_of_line : B → List ℕ → Option RemarkText
  remark_of_line b line =
      if is_note line then said_by_note Note line else option_map (Refused line) (kind.refusal b (words_of_text line))

  -- what a line of this number tells on the session before it; there is none before the header
  abbrev pub remarks_of_line : (number : ℕ) → Option B → List ℕ → List RemarkAt
  remarks_of_line number None line = remarks_after number 0 (heading_of_line line)
  remarks_of_line number (Some b) line = remarks_after number (kind.events b) (remark_of_line b line)

  -- how many events a line stores that leads from one session to another; none before the header
  abbrev pub events_between : (before after : Option B) → ℕ
  events_between None after = 0
  events_between (Some b) None = 0
  events_between (Some b) (Some c) = kind.events c - kind.events b

  -- what is heard of a line of this number that leads from one session to another
  abbrev pub heard_of_line : (number : ℕ) → (before after : Option B) → List ℕ → Heard
  heard_of_line number before after line =
      record { remarks = remarks_of_line number before line; lines = replicate (events_between before after) number }

  -- what is heard of lines, numbered from here on
  abbrev pub heard_of_lines : (number : ℕ) → Option B → List (List ℕ) → Heard
  heard_of_lines number b [] = nothing
  heard_of_lines number b (line ∷ lines) =
      let after = (outcome_of_line kind number b line).session in
      heard_then (heard_of_line number b after line) (heard_of_lines (number + 1) after lines)

  -- what is heard of a script
  abbrev pub heard_of_script : List ℕ → Heard
  heard_of_script bytes = heard_of_lines 1 None (lines_of bytes)

  -- what a script tells beside its events
  abbrev pub remarks_of_script : List ℕ → List RemarkAt
  remarks_of_script bytes = (heard_of_script bytes).remarks

  -- the number of the line that stored each event
  abbrev pub event_lines_of_script : List ℕ → List ℕ
  event_lines_of_script bytes = (heard_of_script bytes).lines

-- a note before the header
a_heading : remarks_of_script (scripts_of 100) (codes "# one\n") ≡ record { line = 1; before = 0; text = Heading (codes "one") } ∷ []
unfolding digits number_of_word
a_heading = refl

a_quiet_header : remarks_of_script (scripts_of 100) (codes "universal 1 queue 2 8\n") ≡ []
unfolding digits number_of_word
a_quiet_header = refl

-- a note before the header, one after it, and an empty line, which tells nothing
notes : remarks_of_script (scripts_of 100) (codes "# one\nuniversal 1 queue 2 8\n#two\n\n")
    ≡ record { line = 1; before = 0; text = Heading (codes "one") } ∷ record { line = 3; before = 0; text = Note (codes "two") }
    ∷ []
unfolding digits number_of_word
notes = refl

-- a step of a process without a call is refused; its line is told as it was typed
refusal_without_a_call : remarks_of_script (scripts_of 100) (codes "universal 1 queue 2 8\nstep 1\n")
    ≡ record { line = 2; before = 0; text = Refused (codes "step 1") (Idle 1) } ∷ []
unfolding digits number_of_word
refusal_without_a_call = refl

-- a call is refused while the one before is pending
refusal_of_a_second_call : remarks_of_script (scripts_of 100) (codes "universal 1 queue 2 8\ncall 0 deq\ncall 0 deq\n")
    ≡ record { line = 3; before = 1; text = Refused (codes "call 0 deq") (Busy 0) } ∷ []
unfolding digits number_of_word
refusal_of_a_second_call = refl

-- each event has the line that stored it: a call, and two steps of one line; a refused command stores none
lines_of_three_events : event_lines_of_script (scripts_of 100) (codes "universal 1 queue 2 8\nstep 1\ncall 0 deq\nstep 0 2\n")
    ≡ 3 ∷ 4 ∷ 4 ∷ []
unfolding digits number_of_word
lines_of_three_events = refl
