-- The texts of a picture: of its marks, of refusals, and the lines of a text.
use Rattle.std.specs.Prelude.{◌≡◌, ℕ, if◌then◌else◌, nat_le, List, ◌++◌, length, take, replicate, codes, refl, ◌==◌, [], ◌∷◌, Option, Some, None, Bool, true, false, ◌&&◌, not, option_map, ◌+◌, nat_eq, Vec, zero, suc, drop, slice_index}
use Rattle.run_layout.specs.Vocabulary.{find, decimal, digits, option_map_or, StepKind, Announce, ScanHead, ScanSeq, WriteScan, Test, ReadAnnounce, ReadHelpSeq, DecideAfter, DecideNew, WriteBefore, WriteSeq, WriteHead, Finish, Refusal, Process, Busy, Row, Idle, Pending, Sequence, History, Count, call_text, Dot, EraEnd, Trim, Reshape, EraLine, End, Called, Cell, RunMarks, lanes_of, StepMark, pointwise, Global, Remark, Refused, PlacedRemark, Told}

-- a text of at most 24 letters; of a longer one the first 22, with two dots for the rest
abbrev pub shortened : List ℕ → List ℕ
shortened text = if nat_le (length text) 24 then text else take 22 text ++ codes ".."

-- 24 letters have room, and 25 haven't
shortened_of_24 : shortened (codes "call 0 transfer 0 12 345") ≡ codes "call 0 transfer 0 12 345"
shortened_of_24 = refl

shortened_of_25 : shortened (codes "call 0 transfer 0 12 3456") ≡ codes "call 0 transfer 0 12 3.."
shortened_of_25 = refl

shortened_of_200 : shortened (replicate 200 120) ≡ replicate 22 120 ++ codes ".."
shortened_of_200 = refl

-- the letter of a kind of step
abbrev pub letter_of : StepKind → ℕ
letter_of Announce = 65
letter_of ScanHead = 72
letter_of ScanSeq = 83
letter_of WriteScan = 71
letter_of Test = 84
letter_of ReadAnnounce = 82
letter_of ReadHelpSeq = 78
letter_of DecideAfter = 76
letter_of DecideNew = 86
letter_of WriteBefore = 66
letter_of WriteSeq = 87
letter_of WriteHead = 85
letter_of Finish = 70

-- what the legend says of a kind of step
abbrev pub meaning_of : StepKind → List ℕ
meaning_of Announce = codes "announces its cell"
meaning_of ScanHead = codes "scan: reads a head"
meaning_of ScanSeq = codes "scan: reads its number"
meaning_of WriteScan = codes "keeps the greatest head"
meaning_of Test = codes "tests its own number"
meaning_of ReadAnnounce = codes "reads whose turn it is"
meaning_of ReadHelpSeq = codes "is that one threaded?"
meaning_of DecideAfter = codes "links a cell, or loses"
meaning_of DecideNew = codes "settles state and reply"
meaning_of WriteBefore = codes "writes the way back"
meaning_of WriteSeq = codes "writes the number"
meaning_of WriteHead = codes "moves its head on"
meaning_of Finish = codes "raises its head, returns"

-- the name of a process
abbrev pub name_text : (process : ℕ) → List ℕ
name_text process = codes "P" ++ decimal process

-- so many things, with the word for one of them and that for any other number
abbrev pub counted_text : (n : ℕ) (one many : List ℕ) → List ℕ
counted_text n one many = decimal n ++ codes " " ++ (if n == 1 then one else many)

-- the label of a call's bar: the call and its words, and its reply where it has returned
abbrev pub label_text : Called → List ℕ
label_text bar = call_text bar.call ++ codes " " ++ bar.words ++ option_map_or (λ end. codes " -> " ++ end.reply) bar.end []

-- the own steps and the turns of a call that has returned
abbrev pub counts_text : End → List ℕ
counts_text end =
    counted_text end.steps (codes "step") (codes "steps") ++ codes " " ++ counted_text end.turns (codes "turn") (codes "turns")

-- how an era ended, with the number of the next anchor
abbrev pub end_text : EraEnd → (number : ℕ) → List ℕ
end_text Trim number = codes "trimmed " ++ decimal number
end_text (Reshape processes) number = codes "reshaped " ++ decimal processes ++ codes " at " ++ decimal number

-- the label of the end of an era
abbrev pub line_text : EraLine → List ℕ
line_text line = end_text line.end line.number

-- the words of a refusal, without `refused` and without the process that is its reason
abbrev pub refusal_words : Refusal → List ℕ
refusal_words (Process process) = codes "process " ++ decimal process
refusal_words (Busy process) = codes "busy"
refusal_words (Row process) = codes "row"
refusal_words (Idle process) = codes "idle"
refusal_words (Pending process) = codes "pending"
refusal_words Sequence = codes "sequence"
refusal_words History = codes "history"
refusal_words (Count count) = codes "count " ++ decimal count

-- the process whose state is the reason of a refusal, if one's is
abbrev pub lane_of : Refusal → Option ℕ
lane_of (Busy process) = Some process
lane_of (Row process) = Some process
lane_of (Idle process) = Some process
lane_of (Pending process) = Some process
lane_of _ = None

-- what a cell says: the words of its call and its reply, where that is settled
abbrev pub cell_words : Cell → List ℕ
cell_words cell = cell.words ++ codes " -> " ++ option_map_or (λ reply. reply) cell.reply (codes "?")

-- the state after a cell, where that is settled, in at most 24 letters
abbrev pub cell_state : Cell → Option (List ℕ)
cell_state cell = option_map (λ state. codes "state " ++ shortened state) cell.state

-- whether a dot is of this cell's call, and another process linked the cell
abbrev pub is_help : Cell → Dot → Bool
is_help cell dot =
    dot.call.process == cell.call.process && dot.call.nth == cell.call.nth && not (dot.by == cell.call.process)

-- the number and the call of a cell, and the process that linked it, where that is another than the call's
abbrev pub cell_name : List Dot → Cell → List ℕ
cell_name dots cell =
    decimal cell.number ++ codes ": " ++ call_text cell.call
    ++ option_map_or (λ dot. codes " by " ++ name_text dot.by) (find (is_help cell) dots) []

-- the title of a picture
abbrev pub title_text : RunMarks → List ℕ
title_text marks =
    marks.object ++ codes ": " ++ counted_text (lanes_of marks.eras) (codes "process") (codes "processes") ++ codes ", "
    ++ counted_text (length marks.bars) (codes "call") (codes "calls") ++ codes ", "
    ++ counted_text marks.events (codes "event") (codes "events")

-- a call that has returned, and one that hasn't
label_returned : label_text (record {
  call = record { process = 1; nth = 0 };
  from = 0;
  words = codes "enq 5";
  end = Some (record { event = 9; reply = codes "ok"; steps = 8; turns = 1 });
})
    ≡ codes "1.0 enq 5 -> ok"
unfolding digits
label_returned = refl

label_pending : label_text (record { call = record { process = 0; nth = 12 }; from = 3; words = codes "deq"; end = None })
    ≡ codes "0.12 deq"
unfolding digits
label_pending = refl

-- one turn, and several steps
counts_of_one_turn : counts_text (record { event = 9; reply = []; steps = 24; turns = 1 }) ≡ codes "24 steps 1 turn"
unfolding digits
counts_of_one_turn = refl

-- a cell that another process linked
name_of_helped : cell_name (record { event = 9; call = record { process = 1; nth = 0 }; by = 0 } ∷ [])
    (record { number = 2; call = record { process = 1; nth = 0 }; words = codes "deq"; reply = None; state = None })
    ≡ codes "2: 1.0 by P0"
unfolding digits
name_of_helped = refl

-- the state after a cell that is settled, and one of 25 letters, which is shortened
abbrev with_state : List ℕ → Cell
with_state state =
    record { number = 2; call = record { process = 1; nth = 0 }; words = codes "deq"; reply = Some (codes "5"); state = Some state }

state_of_two : cell_state (with_state (codes "[6 7]")) ≡ Some (codes "state [6 7]")
state_of_two = refl

state_of_24_letters : cell_state (with_state (replicate 24 120)) ≡ Some (codes "state " ++ replicate 24 120)
state_of_24_letters = refl

state_of_25_letters : cell_state (with_state (codes "[1 2 3 4 5 6 7 8 9 10 11]"))
    ≡ Some (codes "state [1 2 3 4 5 6 7 8 9 10 ..")
state_of_25_letters = refl

-- ---- the titles of the marks of steps

-- the title of the mark of a step: its process, its call, which of the call's own steps it is, and what it does
abbrev pub step_title : StepMark → List ℕ
step_title step =
    name_text step.process ++ codes ", call " ++ call_text (record { process = step.process; nth = step.nth })
    ++ codes ", step " ++ decimal step.number ++ codes ": " ++ meaning_of step.kind

title_of_second : step_title (record { event = 3; process = 1; nth = 0; number = 2; kind = DecideAfter; changed = true })
    ≡ codes "P1, call 1.0, step 2: links a cell, or loses"
unfolding digits
title_of_second = refl

-- ---- refusals as they are drawn: equal ones side by side have one mark

-- why a command was refused
abbrev pub reason_text : Refusal → List ℕ
reason_text (Process process) = codes "no such process"
reason_text (Busy process) = name_text process ++ codes " has a call pending"
reason_text (Row process) = name_text process ++ codes " has a full row"
reason_text (Idle process) = name_text process ++ codes " has no call pending"
reason_text (Pending process) = name_text process ++ codes " has a call pending"
reason_text Sequence = codes "the numbers are used up"
reason_text History = codes "the history is full"
reason_text (Count count) = decimal count ++ codes " isn't from 1 to 64"

-- what was refused, and why
abbrev pub refused_text : (command : List ℕ) → Refusal → List ℕ
refused_text command refusal = shortened command ++ codes " refused: " ++ reason_text refusal

-- a command of a process that there isn't, and one that is too long to be told
refused_process : refused_text (codes "call 64 deq") (Process 64) ≡ codes "call 64 deq refused: no such process"
refused_process = refl

refused_long : refused_text (codes "call 0 transfer 0 12 3456") (Busy 0)
    ≡ codes "call 0 transfer 0 12 3.. refused: P0 has a call pending"
unfolding digits
refused_long = refl

-- what is drawn of a remark: the label of its mark, if it has one, after so many events
pub record Label : Type 0 where
  pub before : ℕ
  pub text : Option (List ℕ)

abbrev pub told_shown : Told → Label
told_shown told = record { before = told.before; text = option_map (λ text. text.items) told.label }

-- how often a refusal was told in a row, behind its words, where that is more than once
abbrev pub times_text : (times : ℕ) → List ℕ
times_text times = if times == 1 then [] else codes " x" ++ decimal times

-- the label of a remark that was told so often in a row; a note has none
abbrev pub told_text : (times : ℕ) → Remark → Option (List ℕ)
told_text times (Refused command refusal) = Some (refused_text command.items refusal ++ times_text times)
told_text times _ = None

-- whether both are refusals with the same text
abbrev pub have_same_text : Remark → Remark → Bool
have_same_text (Refused command why) (Refused command' why') =
    pointwise nat_eq (refused_text command.items why) (refused_text command'.items why')
have_same_text _ _ = false

-- whether a refusal comes again at once, after as many events
abbrev pub comes_again : PlacedRemark → List PlacedRemark → Bool
comes_again one [] = false
comes_again one (next ∷ remarks) = next.before == one.before && have_same_text one.remark next.remark

-- the label of a remark that was told so many times before, and how often the next one was then
abbrev pub label_after : (times : ℕ) → PlacedRemark → List PlacedRemark → Label
label_after times one remarks =
    record { before = one.before; text = if comes_again one remarks then None else told_text (times + 1) one.remark }

abbrev pub times_after : (times : ℕ) → PlacedRemark → List PlacedRemark → ℕ
times_after times one remarks = if comes_again one remarks then times + 1 else 0

-- the label of each remark, where the first one was told so many times before: equal refusals have theirs at the last of them
unfoldable pub labels_from : (times : ℕ) → List PlacedRemark → List Label
labels_from times [] = []
labels_from times (one ∷ remarks) = label_after times one remarks ∷ labels_from (times_after times one remarks) remarks

abbrev pub labels_of : List PlacedRemark → List Label
labels_of remarks = labels_from 0 remarks

-- two equal refusals have one label, and one of another process has its own
module _ (one other : Vec ℕ Global) (is_one : one.items ≡ codes "step 0")
    (is_other : other.items ≡ codes "step 1 9") where
  abbrev idle : Vec ℕ Global → (process : ℕ) → PlacedRemark
  idle command process = record { line = 7; before = 3; remark = Refused command (Idle process) }

  labels_of_three : labels_of (idle one 0 ∷ idle one 0 ∷ idle other 1 ∷ [])
      ≡ record { before = 3; text = None }
      ∷ record { before = 3; text = Some (codes "step 0 refused: P0 has no call pending x2") }
      ∷ record { before = 3; text = Some (codes "step 1 9 refused: P1 has no call pending") }
      ∷ []
  unfolding labels_from digits
  labels_of_three = rw (is_one, is_other) refl

-- ---- the lines of a text

-- the last place below n, but for the first one, at which a text has a space; 0 where there is none
abbrev pub last_space : List ℕ → (n : ℕ) → ℕ
last_space text zero = 0
last_space text (suc n) = if slice_index text n == 32 then n else last_space text n

-- how many letters stand in a line of at most so many: all, or those before the last space after which they still fit, or as many as the
-- line takes
abbrev pub space_or : (space most : ℕ) → ℕ
space_or zero most = most
space_or (suc space) most = suc space

abbrev pub fitting_len : List ℕ → (most : ℕ) → ℕ
fitting_len text most = if nat_le (length text) most then length text else space_or (last_space text (suc most)) most

-- a text without the space that it begins with
abbrev pub after_space : List ℕ → List ℕ
after_space [] = []
after_space (b ∷ bs) = if b == 32 then bs else b ∷ bs

-- the lines of a text, of at most so many letters each; at most n of them
unfoldable pub lines_of : (n most : ℕ) → List ℕ → List (List ℕ)
lines_of zero most text = []
lines_of (suc n) most [] = []
lines_of (suc n) most (b ∷ bs) =
    take (fitting_len (b ∷ bs) most) (b ∷ bs) ∷ lines_of n most (after_space (drop (fitting_len (b ∷ bs) most) (b ∷ bs)))

-- words stay whole where they can
lines_of_words : lines_of 9 8 (codes "it stops here") ≡ codes "it stops" ∷ codes "here" ∷ []
unfolding lines_of
lines_of_words = refl

lines_of_one_word : lines_of 9 4 (codes "announced") ≡ codes "anno" ∷ codes "unce" ∷ codes "d" ∷ []
unfolding lines_of
lines_of_one_word = refl
