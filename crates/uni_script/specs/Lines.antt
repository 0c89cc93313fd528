-- How the lines of a script are taken from a reader, and what is run of them.
use Rattle.std.specs.Prelude.{◌≡◌, ◌≢◌, ◌⊎◌, ℕ, ◌+◌, ◌-◌, ◌<◌, ◌≤◌, ◌==◌, List, [], ◌∷◌, ◌++◌}
use Rattle.std.specs.Prelude.{length, take, drop, replicate, slice_index, Option, Some, None, Result, Ok, Err, IfOk, OnOk, refl}
use Rattle.std.specs.List.{position}
use Rattle.std.proofs.Common.{arith, ap, sym}
use Rattle.std.specs.Io.KnownBytes.{Consumes, Appends, IsAtEnd}
use Rattle.uni_script.specs.Ends.{AppendsPrefix}
use Rattle.uni_script.specs.declared.fault.BenchFault.{BenchFault}
use Rattle.uni_script.specs.declared.fault.BenchFault.TheVariants.{Read, Write, Memory}
use Rattle.uni_script.specs.declared.fault.BenchFault.TheVariants as fault
use Rattle.uni_script.specs.declared.lines.Lines.{Lines}
use Rattle.uni_script.specs.declared.lines.Place.{Place}
use Rattle.uni_script.specs.declared.lines.Place.TheVariants.{Piece, Apart}
use Rattle.uni_script.specs.declared.lines.Source.TheVariants.{Open, Ended}
use Rattle.uni_script.specs.declared.lines.Taken.{Taken}
use Rattle.uni_script.specs.declared.lines.Taken.TheVariants as taken
use Rattle.uni_script.specs.Grammar.{cut, lines_of}
use Rattle.uni_script.specs.Outcome.{Kind, Outcome, outcome_of_fault, and_then, outcome_of_lines, outcome_of_end}
use Rattle.uni_script.specs.Remarks.{Heard, HeardGrows, heard_of_lines}

-- the bytes from the start of the line on, among those that stand apart or those of the piece
abbrev pub bytes_from : Place → (apart piece : List ℕ) → List ℕ
bytes_from (Piece from) apart piece = drop from piece
bytes_from Apart apart piece = apart

-- a line of so many bytes fits where it stands
abbrev pub FitsAt : Place → (width : ℕ) → Type 0
FitsAt (Piece from) width = from + width ≤ 32768
FitsAt Apart width = Unit {0}

-- the numbers of the lines are in range
pub record HasBounds (lines : Lines) : Type 0 where
  pub width : lines.width ≤ 200
  pub place : FitsAt lines.place lines.width
  pub start : lines.start ≤ lines.end
  pub end : lines.end ≤ 32768
  pub count : lines.count ≤ 100000
  pub line_length : length lines.line ≡ 200
  pub piece_length : length lines.piece ≡ 32768

-- the line that was taken last
abbrev pub line_of : Lines → List ℕ
line_of lines = take lines.width (bytes_from lines.place lines.line lines.piece)

-- the bytes that were read and that no line has taken
abbrev pub rest_of : Lines → List ℕ
rest_of lines = take (lines.end - lines.start) (drop lines.start lines.piece)

-- the numbers are in range, and it is known where the next line ends
pub record IsHeld (lines : Lines) : Type 0 where
  pub bounds : HasBounds lines
  pub next : lines.next ≡ position (λ b. b == 10) (rest_of lines)

-- a reader that had these bytes left gave those of these lines, and the rest that no line has taken yet
pub record HasTaken (old now : Option (List ℕ)) (lines : Lines) (taken : List (List ℕ)) : Type 0 where
  pub bytes : List ℕ
  pub consumed : Consumes old now (bytes ++ rest_of lines)
  pub taken_as : lines_of bytes ≡ taken
  pub count : length taken ≡ lines.count
  pub whole : lines.source ≡ Open → (cut bytes).tail ≡ []
  pub ended : lines.source ≡ Ended → (rest_of lines ≡ []) × IsAtEnd now

-- why no further line was taken: the script has ended, the reader has failed, or there is a byte that a script may not have
pub data Stop : Type 0 where
  End : Stop
  Failed : Stop
  TooLong : Stop
  TooMany : Stop

-- reading stopped here after these bytes: nothing was read past them, but for the byte that a script may not have
abbrev pub StopsAt : Stop → (bytes past : List ℕ) → Option (List ℕ) → Type 0
StopsAt End bytes past left = (past ≡ []) × IsAtEnd left
StopsAt Failed bytes past left = past ≡ []
StopsAt TooLong bytes past left =
    (length (cut bytes).whole < 100000) × (length (cut bytes).tail ≡ 200)
    × ((b : ℕ) × (more : List ℕ) × (past ≡ b ∷ more) × (b ≢ 10))
StopsAt TooMany bytes past left = (length (cut bytes).whole ≡ 100000) × ((b : ℕ) × (more : List ℕ) × (past ≡ b ∷ more))

-- a line is too long once a byte after 200 of them doesn't end it
byte_201_makes_a_line_too_long : StopsAt TooLong (replicate 200 48) (48 ∷ []) None
byte_201_makes_a_line_too_long = (omega arith, refl, (48, [], refl, λ e. omega arith))

byte_200_does_not : ¬ (StopsAt TooLong (replicate 199 48) (48 ∷ []) None)
byte_200_does_not = λ stop. let long = stop.1 in omega arith

an_end_after_200_bytes_does_not : ¬ (StopsAt TooLong (replicate 200 48) (10 ∷ []) None)
an_end_after_200_bytes_does_not = λ stop. stop.2.3 (sym (ap (λ bytes. slice_index bytes 0) stop.2.2))

-- a reader that had these bytes left gave these ones of a script, and then reading stopped
pub record IsRead (old new : Option (List ℕ)) (stop : Stop) (bytes : List ℕ) : Type 0 where
  pub past : List ℕ
  pub consumed : Consumes old new (bytes ++ past)
  pub stops : StopsAt stop bytes past new

-- the lines that are run of what was read: the last one may lack its end only where the whole script was read
abbrev pub lines_of_read : Stop → List ℕ → List (List ℕ)
lines_of_read End bytes = lines_of bytes
lines_of_read _ bytes = (cut bytes).whole

-- reading stopped after these lines
pub record HasStopped (old new : Option (List ℕ)) (stop : Stop) (taken : List (List ℕ)) : Type 0 where
  pub bytes : List ℕ
  pub read : IsRead old new stop bytes
  pub taken_as : lines_of_read stop bytes ≡ taken

-- the fault of it, where so many lines were taken
abbrev pub fault_of_stop : Stop → (lines : ℕ) → Option BenchFault
fault_of_stop End lines = None
fault_of_stop Failed lines = Some Read
fault_of_stop TooLong lines = Some (fault.TooLong (lines + 1))
fault_of_stop TooMany lines = Some fault.TooMany

-- after lines that were taken a line more was, or the script has ended there
abbrev pub TakesOn : (old new : Option (List ℕ)) (before after : Lines) → Taken → Type 0
TakesOn old new before after taken.Line =
    (after.count ≡ before.count + 1)
    × ((left : Option (List ℕ)) (lines : List (List ℕ)) → HasTaken left old before lines
    → HasTaken left new after (lines ++ line_of after ∷ []))
TakesOn old new before after taken.End =
    (after.count ≡ before.count) × ((left : Option (List ℕ)) (lines : List (List ℕ)) → HasTaken left old before lines
    → HasStopped left new End lines)

-- after lines that were taken reading stopped with this fault
abbrev pub StopsWith : (old new : Option (List ℕ)) (before : Lines) → BenchFault → Type 0
StopsWith old new before e =
    (stop : Stop) × (fault_of_stop stop before.count ≡ Some e)
    × ((left : Option (List ℕ)) (lines : List (List ℕ)) → HasTaken left old before lines → HasStopped left new stop lines)

-- what comes after those lines
abbrev pub outcome_of_stop : {B : Type 0} → Stop → (lines : ℕ) → Option B → Outcome B
outcome_of_stop End lines b = outcome_of_end lines b
outcome_of_stop Failed lines b = outcome_of_fault b Read
outcome_of_stop TooLong lines b = outcome_of_fault b (fault.TooLong (lines + 1))
outcome_of_stop TooMany lines b = outcome_of_fault b fault.TooMany

-- the run of what was read
abbrev pub outcome_of_read : {B : Type 0} (kind : Kind B) → Stop → List ℕ → Outcome B
outcome_of_read kind stop bytes =
    and_then (outcome_of_lines kind 1 None (lines_of_read stop bytes))
    (λ after. outcome_of_stop stop (length (lines_of_read stop bytes)) after)

-- a call ended as the outcome says, and a text grew by its text; or memory was refused
abbrev pub EndsAs : {A B : Type 0} → Outcome B → (old new : List ℕ) → Result A BenchFault → Type 0
EndsAs outcome old new (Ok _) = (outcome.fault ≡ None) × (new ≡ old ++ outcome.text)
EndsAs outcome old new (Err e) = (e ≡ Memory) ⊎ ((outcome.fault ≡ Some e) × (new ≡ old ++ outcome.text))

-- a call ended as the outcome says, after its text was written; or memory was refused or the writer failed, after a prefix
-- of it was
abbrev pub WritesAs : {A B : Type 0} → Outcome B → (old new : Option (List ℕ)) → Result A BenchFault → Type 0
WritesAs outcome old new (Ok _) = (outcome.fault ≡ None) × Appends old new outcome.text
WritesAs outcome old new (Err e) =
    (((e ≡ Memory) ⊎ (e ≡ Write)) × AppendsPrefix old new outcome.text)
    ⊎ ((outcome.fault ≡ Some e) × Appends old new outcome.text)

-- The lines that were taken have left this session and no fault. The text of their answers was written, but for what is gathered of
-- it, and what they tell was heard.
pub record HasRun {B : Type 0} (kind : Kind B) (old now : Option (List ℕ)) (lines : Lines) (written_old written : Option (List ℕ))
    (gathered : List ℕ) (heard_old heard : Option Heard) (taken : List (List ℕ)) (session : Option B) : Type 0 where
  pub reading : HasTaken old now lines taken
  pub fault : (outcome_of_lines kind 1 None taken).fault ≡ None
  pub session_after : (outcome_of_lines kind 1 None taken).session ≡ session
  pub prefix : List ℕ
  pub written_as : Appends written_old written prefix
  pub text_is : (outcome_of_lines kind 1 None taken).text ≡ prefix ++ gathered
  pub heard_as : HeardGrows heard_old heard (heard_of_lines kind 1 None taken)

-- what was read has the lines that were taken, and may have more whole ones
pub record ReadsOn (old now : Option (List ℕ)) (taken : List (List ℕ)) : Type 0 where
  pub stop : Stop
  pub bytes : List ℕ
  pub read : IsRead old now stop bytes
  pub more : List (List ℕ)
  pub lines : lines_of_read stop bytes ≡ taken ++ more

-- what was read has this first fault, and the text of the lines that were taken
pub record HasFaultAfter {B : Type 0} (kind : Kind B) (old now : Option (List ℕ)) (taken : List (List ℕ))
    (e : BenchFault) : Type 0 where
  pub stop : Stop
  pub bytes : List ℕ
  pub read : IsRead old now stop bytes
  pub fault : (outcome_of_read kind stop bytes).fault ≡ Some e
  pub text : (outcome_of_read kind stop bytes).text ≡ (outcome_of_lines kind 1 None taken).text

-- after the lines that were taken memory was refused, or this is the first fault of what was read
abbrev pub FaultsAfter : {B : Type 0} (kind : Kind B) (old now : Option (List ℕ)) (taken : List (List ℕ)) (e : BenchFault) → Type 0
FaultsAfter kind old now taken e = ((e ≡ Memory) × ReadsOn old now taken) ⊎ HasFaultAfter kind old now taken e

-- after the lines that were taken a further one was run, or the script has ended, or it has a fault
abbrev pub GoesOn : {B : Type 0} (kind : Kind B) (old new : Option (List ℕ)) (lines after : Lines)
    (written_old written : Option (List ℕ)) (gathered gathered_new : List ℕ) (heard_old heard heard_new : Option Heard)
    (earlier : List (List ℕ)) (b b_new : B)
    → Result Taken BenchFault → Type 0
GoesOn kind old new lines after written_old written gathered gathered_new heard_old heard heard_new earlier b b_new (Ok taken.Line) =
    (further : List (List ℕ)) × HasRun kind old new after written_old written gathered_new heard_old heard_new further (Some b_new)
GoesOn kind old new lines after written_old written gathered gathered_new heard_old heard heard_new earlier b b_new (Ok taken.End) =
    HasStopped old new End earlier × (gathered_new ≡ gathered)
    × (heard_new ≡ heard) × (b_new ≡ b) × (after.count ≡ lines.count)
GoesOn kind old new lines after written_old written gathered gathered_new heard_old heard heard_new earlier b b_new (Err e) =
    (gathered_new ≡ gathered) × FaultsAfter kind old new earlier e

-- the run of what was read has ended as it should, and this was made of a script of so many lines and the session that it leaves
pub record HasEnded {B : Type 0} (kind : Kind B) (old new : Option (List ℕ)) (written_old written : Option (List ℕ))
    (heard_old heard : Option Heard) {Made : Type 0} (IsMade : (lines : ℕ) → B → Made → Type 0)
    (result : Result Made BenchFault) : Type 0 where
  pub stop : Stop
  pub bytes : List ℕ
  pub read : IsRead old new stop bytes
  pub ends : WritesAs (outcome_of_read kind stop bytes) written_old written result
  pub made : IfOk result (λ made. (b : B) × ((outcome_of_read kind stop bytes).session ≡ Some b)
      × IsMade (length (lines_of_read stop bytes)) b made)
  pub heard_as : OnOk result (HeardGrows heard_old heard (heard_of_lines kind 1 None (lines_of_read stop bytes)))

-- the lines that are left are run from this session on, whatever lines came before it
abbrev pub RunsOn : {B : Type 0} (kind : Kind B) (now : Option (List ℕ)) (lines : Lines) (written : Option (List ℕ))
    (heard : Option Heard) → Option B → (new written_new : Option (List ℕ)) (heard_new : Option Heard)
    → {Made : Type 0} (IsMade : (lines : ℕ) → B → Made → Type 0) → Result Made BenchFault → Type 0
RunsOn kind now lines written heard session new written_new heard_new IsMade result =
    (old written_old : Option (List ℕ)) (heard_old : Option Heard) (taken : List (List ℕ))
    → HasRun kind old now lines written_old written [] heard_old heard taken session
    → HasEnded kind old new written_old written_new heard_old heard_new IsMade result

-- a fault that the run of a line can have
abbrev pub IsFaultOfLine : BenchFault → Type 0
IsFaultOfLine (fault.BadHeader l) = Unit {0}
IsFaultOfLine (fault.BadByte l) = Unit {0}
IsFaultOfLine (fault.BadLine l) = Unit {0}
IsFaultOfLine Memory = Unit {0}
IsFaultOfLine (fault.NoHeader l) = ⊥
IsFaultOfLine (fault.TooLong l) = ⊥
IsFaultOfLine fault.TooMany = ⊥
IsFaultOfLine Read = ⊥
IsFaultOfLine Write = ⊥
IsFaultOfLine (fault.Audit verdict) = ⊥
