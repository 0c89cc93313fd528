-- What a run of the program has done when it ends, and the statuses with which it ends.
use Rattle.std.specs.Prelude.{Bool, List, Ok, Option, Result, Vec, [], codes, false, true, ℕ, ◌++◌, ◌∷◌, ◌≡◌, ◌≢◌, ◌⊎◌}
use Rattle.unidraw_run.specs.Vocabulary.{BenchFault, HasFault, HasRangeFault, IsFaultOfScript, IsLines, IsPage, IsPicture, IsStatusOf, IsTold, Memory, Misdrawn, OfRange, PastEnd, PictureFault, Range, RangeFault, Script, TellsLine, TooManyEvents, Write, Writes, WritesPart, all_events, picture_fault_text, scripts_of, status_of, too_many_text}
use Rattle.std.specs.declared.alloc.Global.{Global}
use Rattle.run_tell.specs.History.{IsHistory}
use Rattle.run_tell.specs.Sentences.{steps_wording}
use Rattle.run_tell.specs.TraceLines.{json_wording, whole_wording}
use Rattle.unidraw_run.specs.declared.program.Form.{Form}
use Rattle.unidraw_run.specs.declared.program.Form.TheVariants.{Full, History, Html, Json, Lines, Steps, Svg}
pub use Rattle.unidraw_run.specs.CommandLine.{form_of_words}

-- the reader had a script that can be drawn, and this is its picture in a form, or its steps in words, its trace, that with the
-- whole memory, the page of it, or its history
abbrev pub IsPictureIn : Form → (left : Option (List ℕ)) → (text : List ℕ) → Type 0
IsPictureIn (Svg range) left text = IsPicture range left text
IsPictureIn (Lines range columns) left text = IsLines range columns left text
IsPictureIn (Steps range) left text = IsTold steps_wording range left text
IsPictureIn (Json range) left text = IsTold json_wording range left text
IsPictureIn (Full range) left text = IsTold whole_wording range left text
IsPictureIn (Html range) left text = IsPage range left text
IsPictureIn History left text = IsHistory left text

-- the text of a picture that there is
abbrev pub IsTextOf : Result (Vec ℕ Global) PictureFault → (text : List ℕ) → Type 0
IsTextOf picture text = (bytes : Vec ℕ Global) × (picture ≡ Ok bytes) × (text ≡ bytes.items)

-- the events that a form shows
abbrev pub range_of : Form → Range
range_of (Svg range) = range
range_of (Lines range columns) = range
range_of (Steps range) = range
range_of (Json range) = range
range_of (Full range) = range
range_of (Html range) = range
range_of History = all_events

-- the reader had a script with a fault, or one of which the events can't be chosen that a form shows
abbrev pub HasNoPicture : Form → (left : Option (List ℕ)) → Type 0
HasNoPicture form left =
    ((e : RangeFault) × HasRangeFault (range_of form) e left)
    ⊎ ((e : BenchFault) × IsFaultOfScript e × HasFault (scripts_of 1048576) left e)

-- whether a form is written while it is told, and not made whole first
abbrev pub is_streamed : Form → Bool
is_streamed (Svg range) = false
is_streamed (Lines range columns) = false
is_streamed (Steps range) = true
is_streamed (Json range) = true
is_streamed (Full range) = true
is_streamed (Html range) = false
is_streamed History = true

-- whether a part of it may be written before this fault: before a failure of the output, and before refused memory where it is streamed
abbrev pub may_write_before : Form → PictureFault → Bool
may_write_before form (Script Write) = true
may_write_before form (Script Memory) = is_streamed form
may_write_before form _ = false

-- a run of the program that ended with this status, from what the input had left and the output held: 0 only where the picture was
-- written, 2 only where the script has none. Else nothing was written or a prefix of the picture: where it is made whole first, a
-- prefix only after a failure of the output
pub record IsDrawn (form : Form) (left old new : Option (List ℕ)) (status : ℕ) : Type 0 where
  pub drawn : status ≡ 0 → Writes (IsPictureIn form left) old new
  pub bad : status ≡ 2 → HasNoPicture form left × (new ≡ old)
  pub part : status ≢ 0 → WritesPart (IsPictureIn form left) old new
  pub nothing : status ≢ 0 → status ≢ 3 → is_streamed form ≡ false → new ≡ old

-- the status that a fault ends with
abbrev pub status_of_picture : PictureFault → ℕ
status_of_picture (Script fault) = status_of fault
status_of_picture (OfRange fault) = 2
status_of_picture Misdrawn = 5

-- the status of a fault, or that of refused memory for its text
abbrev pub IsStatusOfPicture : PictureFault → (status : ℕ) → Type 0
IsStatusOfPicture (Script fault) status = IsStatusOf fault status
IsStatusOfPicture (OfRange fault) status = status ≡ 2
IsStatusOfPicture Misdrawn status = status ≡ 5

-- what a form is called
abbrev pub form_name : Form → List ℕ
form_name (Svg range) = codes "an SVG"
form_name (Lines range columns) = codes "--text"
form_name (Steps range) = codes "--steps"
form_name (Json range) = codes "--json"
form_name (Full range) = codes "--json --full"
form_name (Html range) = codes "--html"
form_name History = codes "--history"

-- the text of a fault, where a form was asked for
abbrev pub fault_text_in : Form → PictureFault → List ℕ
fault_text_in form (Script fault) = picture_fault_text (Script fault)
fault_text_in form (OfRange PastEnd) = codes "--from is past the last event"
fault_text_in form (OfRange TooManyEvents) = too_many_text (form_name form)
fault_text_in form Misdrawn = picture_fault_text Misdrawn

-- the line that tells it
abbrev pub picture_fault_line : Form → PictureFault → List ℕ
picture_fault_line form fault = fault_text_in form fault ++ 10 ∷ []

-- known bytes grew by the line of a fault that ends with this status, and where it is explained by some text after it: by all of it,
-- where the end hasn't failed, else by a prefix
abbrev pub TellsPictureFault : Form → (is_explained : Bool) (old new : Option (List ℕ)) (failed : Bool) (status : ℕ)
    → Type 0
TellsPictureFault form is_explained old new failed status =
    (more : List ℕ) × (is_explained ≡ false → more ≡ [])
    × TellsLine (λ fault status. status ≡ status_of_picture fault) (λ fault. picture_fault_line form fault ++ more)
    old new failed status
