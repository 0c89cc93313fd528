-- What the lines of a goal ask of a script and of the answers to it.
use Rattle.std.specs.Prelude.{◌≡◌, ℕ, ◌+◌, ◌-◌, ◌==◌, nat_le, nat_lt, nat_eq, not, ◌&&◌, ◌||◌}
use Rattle.std.specs.Prelude.{if◌then◌else◌, Bool, true, false, List, [], ◌∷◌, ◌++◌, drop, length, Option, None, Some}
use Rattle.std.specs.Prelude.{codes, decimal, flat_map, slice_index_or, take, refl, ◌⊎◌}
use Rattle.std.specs.Option.{option_map_or}
use Rattle.std.specs.List.{list_any, starts_with, ends_with, slice_split, suffix_len}
use Rattle.std.specs.Str.{bytes_eq}
use Rattle.std.specs.Char.{is_ascii_digit, is_ascii_whitespace}
use Rattle.std.specs.Char.Escape.{escape_ascii}
use Rattle.ready_objects.specs.Number.{number_of_word}
use Rattle.ready_objects.specs.Words.{words_of_text}
use Rattle.uni_script.specs.Scripts.{scripts_of}
use Rattle.uni_script.specs.Grammar.{is_note, is_plain_byte}
use Rattle.uni_script.specs.Replay.{text_of_script}
use Rattle.run_layout.specs.Choice.{all_events}
use Rattle.run_layout.specs.Subject.{HasRangeFault}
use Rattle.run_layout.specs.declared.choice.RangeFault.TheVariants.{TooManyEvents}
use Rattle.run_tell.specs.Sentences.{steps_wording}
use Rattle.run_tell.specs.Told.{IsTold}
use Rattle.course_run.specs.declared.judging.Judgement.{Judgement}
use Rattle.course_run.specs.declared.judging.Judgement.TheVariants.{Met, Missing}

-- the lines of a text, cut at each byte 10: what follows the last end is an empty line more
abbrev pub lines_in : List ℕ → List (List ℕ)
lines_in text = slice_split (λ b. b == 10) text

-- what follows `..`, where a pattern begins with it
abbrev pub after_gap : (pattern : List ℕ) → Option (List ℕ)
after_gap [] = None
after_gap (a ∷ []) = None
after_gap (a ∷ b ∷ back) = if a == 46 && b == 46 then Some back else None

-- a text without its first byte, where that is this one
abbrev pub without_first : ℕ → (text : List ℕ) → Option (List ℕ)
without_first b [] = None
without_first b (c ∷ text) = if c == b then Some text else None

-- a text ends with another one
abbrev pub ends_in : (text back : List ℕ) → Bool
ends_in text back = nat_le (length back) (length text) && ends_with nat_eq text back

-- a text is like a pattern: it has the bytes of the pattern, of which the first `..` stands for any bytes
abbrev pub is_like : (pattern text : List ℕ) → Bool
is_like [] text = nat_le (length text) 0
is_like (b ∷ pattern) text =
    option_map_or (ends_in text) (after_gap (b ∷ pattern)) (option_map_or (is_like pattern) (without_first b text) false)

-- one of some lines is like a pattern
abbrev pub has_like : (pattern : List ℕ) → (lines : List (List ℕ)) → Bool
has_like pattern lines = list_any (is_like pattern) lines

-- a line of a run that is told in steps, without its event's number and the blanks before and after that
abbrev pub after_number : (line : List ℕ) → List ℕ
after_number [] = []
after_number (b ∷ line) = if is_ascii_digit b || b == 32 then after_number line else b ∷ line

-- one of some lines of such a run is like a pattern
abbrev pub has_step : (pattern : List ℕ) → (steps : List (List ℕ)) → Bool
has_step pattern steps = list_any (λ line. is_like pattern (after_number line)) steps

-- a line is like the first of some patterns, one after it like the second, and so on
abbrev pub come_in_order : (patterns lines : List (List ℕ)) → Bool
come_in_order [] lines = true
come_in_order (pattern ∷ patterns) [] = false
come_in_order (pattern ∷ patterns) (line ∷ lines) =
    if is_like pattern line then come_in_order patterns lines else come_in_order (pattern ∷ patterns) lines

-- the patterns in a text, cut at each bar
abbrev pub patterns_in : List ℕ → List (List ℕ)
patterns_in text = slice_split (λ b. b == 124) text

-- the second of some words is this one
abbrev pub is_second : (word : List ℕ) → (words : List (List ℕ)) → Bool
is_second word [] = false
is_second word (a ∷ []) = false
is_second word (a ∷ b ∷ words) = bytes_eq b word

-- a line of a log names this call: it alone of all answers begins with a digit, and its second word is the call
abbrev pub names_call : (call line : List ℕ) → Bool
names_call call [] = false
names_call call (b ∷ line) = is_ascii_digit b && is_second call (words_of_text (b ∷ line))

-- the place of the first line of a log that names a call, where lines are numbered from here on
abbrev pub place_from : (place : ℕ) → (call : List ℕ) → (lines : List (List ℕ)) → Option ℕ
place_from place call [] = None
place_from place call (line ∷ lines) = if names_call call line then Some place else place_from (place + 1) call lines

-- both places are there, and the first is less
abbrev pub is_less : (first second : Option ℕ) → Bool
is_less None second = false
is_less (Some a) None = false
is_less (Some a) (Some b) = nat_lt a b

-- in the logs that were answered the first call is named before the second one, which is named too
abbrev pub comes_before : (first second : List ℕ) → (lines : List (List ℕ)) → Bool
comes_before first second lines = is_less (place_from 0 first lines) (place_from 0 second lines)

-- how many of some lines are no notes
abbrev pub said_in : List (List ℕ) → ℕ
said_in [] = 0
said_in (line ∷ lines) = if is_note line then said_in lines else said_in lines + 1

-- a script, the answers to it, and its run, told in steps, cut into lines
pub record Deed : Type 0 where
  pub script : List (List ℕ)
  pub answers : List (List ℕ)
  pub steps : List (List ℕ)

-- some lines, notes aside, are at most as many as a word says; no word but a number says so
abbrev pub is_at_most : (lines : List (List ℕ)) → (word : List ℕ) → Bool
is_at_most lines word = option_map_or (nat_le (said_in lines)) (number_of_word word) false

-- words are `no refusals`, `at most N lines` and `log P.M before Q.L`, but for N and the calls
abbrev pub asks_no_refusals : (a b : List ℕ) → Bool
asks_no_refusals a b = bytes_eq a (codes "no") && bytes_eq b (codes "refusals")

abbrev pub asks_at_most : (a b d : List ℕ) → Bool
asks_at_most a b d = bytes_eq a (codes "at") && bytes_eq b (codes "most") && bytes_eq d (codes "lines")

abbrev pub asks_order : (a c : List ℕ) → Bool
asks_order a c = bytes_eq a (codes "log") && bytes_eq c (codes "before")

-- what the words of a line of a goal ask for; the line itself is a pattern of an answer, where its words are none of these forms
abbrev pub is_met_by : (script answers : List (List ℕ)) → (line : List ℕ) → (words : List (List ℕ)) → Bool
is_met_by script answers line (a ∷ b ∷ []) =
    if asks_no_refusals a b then not (has_like (codes "refused ..") answers) else has_like line answers
is_met_by script answers line (a ∷ b ∷ c ∷ d ∷ []) =
    if asks_at_most a b d then is_at_most script c
    else if asks_order a c then comes_before b d answers
    else has_like line answers
is_met_by script answers line words = has_like line answers

-- a line of a goal is met: `script TEXT` asks for a line of the script, `order TEXT|TEXT` for answers in this order, `P..` for a
-- step, and `no P..` for none
abbrev pub is_met : Deed → (line : List ℕ) → Bool
is_met deed line =
    if starts_with nat_eq line (codes "script ") then has_like (drop 7 line) deed.script
    else if starts_with nat_eq line (codes "order ") then come_in_order (patterns_in (drop 6 line)) deed.answers
    else if starts_with nat_eq line (codes "P") then has_step line deed.steps
    else if starts_with nat_eq line (codes "no P") then not (has_step (drop 3 line) deed.steps)
    else is_met_by deed.script deed.answers line (words_of_text line)

-- a line of a goal without the blanks at its end: spaces, tabs, and what ends lines elsewhere
abbrev pub without_end : List ℕ → List ℕ
without_end line = take (length line - suffix_len is_ascii_whitespace line) line

-- a line of a goal is a note, or met
abbrev pub is_note_or_met : Deed → (line : List ℕ) → Bool
is_note_or_met deed line = is_note line || is_met deed line

-- the number of the first of some lines that is no note and isn't met, where they are numbered from here on
abbrev pub first_missing : Deed → (number : ℕ) → (lines : List (List ℕ)) → Option ℕ
first_missing deed number [] = None
first_missing deed number (line ∷ lines) =
    if is_note_or_met deed (without_end line) then first_missing deed (number + 1) lines else Some number

-- what a script did, where its answers make this text, and its steps that one
abbrev pub deed_of : (script text steps : List ℕ) → Deed
deed_of script text steps = record { script = lines_in script; answers = lines_in text; steps = lines_in steps }

-- the number of the first line of a goal that a script doesn't meet whose run is told in these steps
abbrev pub missing_of : (goal script steps : List ℕ) → Option ℕ
missing_of goal script steps =
    first_missing (deed_of script (text_of_script (scripts_of 1048576) script) steps) 1 (lines_in goal)

-- a script's run is told in these steps; or it has more than 2,000 events, and they are none
abbrev pub AreStepsOf : (script steps : List ℕ) → Type 0
AreStepsOf script steps =
    IsTold steps_wording all_events (Some script) steps
    ⊎ (HasRangeFault all_events TooManyEvents (Some script) × (steps ≡ []))

-- the line that is missing, if one is
abbrev pub missing_in : Judgement → Option ℕ
missing_in Met = None
missing_in (Missing number) = Some number

-- a line as it is told: a byte that isn't from 32 to 126 by its escape, as `\t` or `\x1b`
abbrev pub told_byte : ℕ → List ℕ
told_byte b = if is_plain_byte b then b ∷ [] else escape_ascii b

abbrev pub told_line : (line : List ℕ) → List ℕ
told_line line = flat_map told_byte line

-- what is told of a goal that is met, and of one whose line of this number isn't
abbrev pub judgement_text : (goal : List ℕ) → (missing : Option ℕ) → List ℕ
judgement_text goal None = codes "met\n"
judgement_text goal (Some number) =
    codes "line " ++ decimal number ++ codes " is not met: "
    ++ told_line (without_end (slice_index_or (lines_in goal) (number - 1) [])) ++ codes "\n"

-- the line that tells why a goal can't be had, by the status that the program ends with
abbrev pub line_of_unread : (status : ℕ) → List ℕ
line_of_unread status = (if status == 4 then codes "out of memory" else codes "cannot read the goal") ++ 10 ∷ []

-- rows
turns_are_like : is_like (codes "returned 1.0 .. turns 3") (codes "returned 1.0 ok steps 32 turns 3") ≡ true
turns_are_like = refl

other_turns_are_not : is_like (codes "returned 1.0 .. turns 3") (codes "returned 1.0 ok steps 24 turns 2") ≡ false
other_turns_are_not = refl

a_pattern_without_a_gap_is_the_text : is_like (codes "trimmed 4") (codes "trimmed 42") ≡ false
a_pattern_without_a_gap_is_the_text = refl

a_gap_takes_no_byte_twice : is_like (codes "ab..bc") (codes "abc") ≡ false
a_gap_takes_no_byte_twice = refl

a_step_has_no_number : after_number (codes "12  P1  L  proposes 1.0") ≡ codes "P1  L  proposes 1.0"
a_step_has_no_number = refl

a_step_is_found : has_step (codes "P1  L  ..: lost.") (codes "9  P1  L  proposes 1.0 for anchor.after; 0.0 is there already: lost." ∷ [])
    ≡ true
a_step_is_found = refl

another_process_is_not : has_step (codes "P1  L  ..: won.") (codes "9  P0  L  proposes 0.0 for anchor.after: won." ∷ []) ≡ false
another_process_is_not = refl

bars_part_patterns : patterns_in (codes "called 0.0|trimmed ..") ≡ codes "called 0.0" ∷ codes "trimmed .." ∷ []
bars_part_patterns = refl

a_trim_after_a_call : come_in_order (codes "called 0.0" ∷ codes "trimmed .." ∷ []) (codes "called 0.0" ∷ codes "x" ∷ codes "trimmed 2" ∷ [])
    ≡ true
a_trim_after_a_call = refl

a_trim_before_a_call : come_in_order (codes "called 0.0" ∷ codes "trimmed .." ∷ []) (codes "trimmed 1" ∷ codes "called 0.0" ∷ []) ≡ false
a_trim_before_a_call = refl

one_line_is_no_two : come_in_order (codes "called .." ∷ codes "called .." ∷ []) (codes "called 0.0" ∷ []) ≡ false
one_line_is_no_two = refl

abbrev a_log : List (List ℕ)
a_log = codes "called 1.0" ∷ codes "2 0.0 enq 6 -> ok" ∷ codes "3 1.0 enq 5 -> ok" ∷ []

first_comes_before : comes_before (codes "0.0") (codes "1.0") a_log ≡ true
first_comes_before = refl

second_does_not : comes_before (codes "1.0") (codes "0.0") a_log ≡ false
second_does_not = refl

notes_say_nothing : said_in (codes "# a note" ∷ codes "" ∷ codes "log" ∷ []) ≡ 1
notes_say_nothing = refl

a_space_and_a_carriage_return_at_an_end_do_not_count : without_end (codes "trimmed 4 \r") ≡ codes "trimmed 4"
a_space_and_a_carriage_return_at_an_end_do_not_count = refl

others_are_told_by_escapes : told_line (9 ∷ 97 ∷ 27 ∷ 92 ∷ 200 ∷ []) ≡ codes "\\ta\\x1b\\\\xc8"
others_are_told_by_escapes = refl
