-- What is told of a script, and how it is written.
use Rattle.std.specs.Prelude.{◌≡◌, ℕ, ◌<◌, ◌≤◌, List, [], ◌∷◌, ◌++◌, drop, length, Some, refl}
use Rattle.std.proofs.Common.{arith}
use Rattle.std.specs.declared.option.Option.{Option}
use Rattle.std.specs.declared.option.Option.TheVariants.{None}
use Rattle.uni_script.specs.Scripts.{scripts_of}
use Rattle.uni_script.specs.Fault.{fault_line}
use Rattle.uni_script.specs.Replay.{IsFaultOfScript, fault_of_script, text_of_script}
use Rattle.uni_script.specs.declared.fault.BenchFault.{BenchFault}
use Rattle.run_layout.specs.Subject.{HasRangeFault, picture_fault_text}
use Rattle.run_layout.specs.declared.subject.PictureFault.{PictureFault}
use Rattle.run_layout.specs.declared.subject.PictureFault.TheVariants.{Script, Range as OfRange, Misdrawn}
use Rattle.run_layout.specs.Choice.{all_events}
use Rattle.run_picture.specs.Picture.{IsPicture}
use Rattle.run_lines.specs.Lines.{IsLines}

-- There is room for a text: it is at the buffer's start, the rest is as it was, and its length is told.
pub record IsWritten (text old new : List ℕ) (told : ℕ) : Type 0 where
  pub room : length text ≤ length old
  pub bytes : new ≡ text ++ drop (length text) old
  pub length_is : told ≡ length text

-- There is less room than a text takes: the buffer is as it was, and the text's length is told.
pub record IsTooLong (text old new : List ℕ) (told : ℕ) : Type 0 where
  pub room : length old < length text
  pub same : new ≡ old
  pub length_is : told ≡ length text

-- two bytes in a buffer of three, and in one of one
two_of_three : IsWritten (7 ∷ 8 ∷ []) (1 ∷ 2 ∷ 3 ∷ []) (7 ∷ 8 ∷ 3 ∷ []) 2
two_of_three = record { room = omega arith; bytes = refl; length_is = refl }

two_of_one : IsTooLong (7 ∷ 8 ∷ []) (1 ∷ []) (1 ∷ []) 2
two_of_one = record { room = omega arith; same = refl; length_is = refl }

-- the line of a script's first fault, or the answers where it has none
abbrev pub line_or : Option BenchFault → (answers : List ℕ) → List ℕ
line_or None answers = answers
line_or (Some fault) answers = fault_line fault

-- what is told of a script whose history can have so many events
abbrev pub answer_to : (history : ℕ) → (script : List ℕ) → List ℕ
answer_to history script = line_or (fault_of_script (scripts_of history) script) (text_of_script (scripts_of history) script)

-- a fault that a script has, and not its run
abbrev pub IsFaultOfPicture : PictureFault → Type 0
IsFaultOfPicture (Script fault) = IsFaultOfScript fault
IsFaultOfPicture (OfRange fault) = Unit {0}
IsFaultOfPicture Misdrawn = ⊥

-- the line that says why a script has no picture
abbrev pub line_of : PictureFault → List ℕ
line_of fault = picture_fault_text fault ++ 10 ∷ []

-- why a script has no picture: its first fault, or more than 2,000 events
abbrev pub HasNoPicture : (script : List ℕ) → PictureFault → Type 0
HasNoPicture script (Script fault) = fault_of_script (scripts_of 1048576) script ≡ Some fault
HasNoPicture script (OfRange fault) = HasRangeFault all_events fault (Some script)
HasNoPicture script Misdrawn = ⊥

-- the script's picture as an SVG, its picture as lines, or the line that says why it has neither, is like this
abbrev pub HasPicture : (script : List ℕ) → (List ℕ → Type 0) → Type 0
HasPicture script Is = (svg : List ℕ) × IsPicture all_events (Some script) svg × Is svg

abbrev pub HasLines : (script : List ℕ) → (List ℕ → Type 0) → Type 0
HasLines script Is = (text : List ℕ) × IsLines all_events 100 (Some script) text × Is text

abbrev pub HasRefusal : (script : List ℕ) → (List ℕ → Type 0) → Type 0
HasRefusal script Is = (fault : PictureFault) × HasNoPicture script fault × Is (line_of fault)
