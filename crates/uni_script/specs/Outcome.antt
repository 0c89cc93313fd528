-- What the lines of a script come to: they are run in turn, up to the first fault.
use Rattle.std.specs.Prelude.{ℕ, ◌+◌, nat_lt, not, if◌then◌else◌, List, [], ◌∷◌, ◌++◌, length, Option, Some, None}
use Rattle.std.specs.Prelude.{codes}
use Rattle.std.specs.Option.{option_map_or}
use Rattle.std.specs.List.{list_all}
use Rattle.ready_objects.specs.Words.{words_of_text}
use Rattle.uni_script.specs.declared.fault.BenchFault.{BenchFault}
use Rattle.uni_script.specs.declared.fault.BenchFault.TheVariants.{NoHeader, BadHeader, TooLong, BadByte, BadLine, TooMany}
use Rattle.uni_script.specs.declared.answer.Refusal.{Refusal}
use Rattle.uni_script.specs.declared.options.Echo.{Echo}
use Rattle.uni_script.specs.declared.options.Echo.TheVariants.{Off, On}
use Rattle.uni_script.specs.Answer.{end_text}
use Rattle.uni_script.specs.Grammar.{lines_of, is_plain_byte, is_note}

-- what a command makes of a session: the session after it, and the text of its answer
pub record Answered (B : Type 0) : Type 0 where
  pub session : B
  pub text : List ℕ

-- A kind of scripts, with sessions of its own. Of the words of a line it says which session they open, if they are a header; what they
-- make of a session, if they are a command; and why that command is refused, if it is. It says how many events a session has, and
-- whether lines are written before their answers.
pub record Kind (B : Type 0) : Type 0 where
  pub opened : (words : List (List ℕ)) → Option B
  pub made : B → (words : List (List ℕ)) → Option (Answered B)
  pub refusal : B → (words : List (List ℕ)) → Option Refusal
  pub events : B → ℕ
  pub echo : Echo

-- What some lines come to: the session after them, none before the header; the text of their answers; and the fault that
-- ended them, if one did.
pub record Outcome (B : Type 0) : Type 0 where
  pub session : Option B
  pub text : List ℕ
  pub fault : Option BenchFault

abbrev pub outcome_of_fault : {B : Type 0} → Option B → BenchFault → Outcome B
outcome_of_fault b fault = record { session = b; text = []; fault = Some fault }

abbrev pub outcome_of_text : {B : Type 0} → B → (text : List ℕ) → Outcome B
outcome_of_text b text = record { session = Some b; text = text; fault = None }

-- an outcome, and then another one from the session after it, unless a fault ended it
abbrev pub and_then_from : {B : Type 0} → Outcome B → Outcome B → Option BenchFault → Outcome B
and_then_from first rest (Some fault) = first
and_then_from first rest None = record rest { text = first.text ++ rest.text }

abbrev pub and_then : {B : Type 0} → Outcome B → (Option B → Outcome B) → Outcome B
and_then first rest = and_then_from first (rest first.session) first.fault

-- the end of a script that has so many lines
abbrev pub outcome_of_end : {B : Type 0} → (lines : ℕ) → Option B → Outcome B
outcome_of_end lines None = outcome_of_fault None (NoHeader (lines + 1))
outcome_of_end lines (Some b) = outcome_of_text b end_text

-- what is written of a line before its answers
abbrev pub echo_of : Echo → (line : List ℕ) → List ℕ
echo_of Off line = []
echo_of On line = codes "> " ++ line ++ 10 ∷ []

-- an outcome with a text before its answers, unless it is a fault
abbrev pub echoed_from : {B : Type 0} → (text : List ℕ) → Outcome B → Option BenchFault → Outcome B
echoed_from text outcome (Some fault) = outcome
echoed_from text outcome None = record outcome { text = text ++ outcome.text }

abbrev pub echoed : {B : Type 0} → (text : List ℕ) → Outcome B → Outcome B
echoed text outcome = echoed_from text outcome outcome.fault

module _ {B : Type 0} (kind : Kind B) where
  -- a line that isn't a note
  abbrev pub outcome_of_words : (number : ℕ) → Option B → List (List ℕ) → Outcome B
  outcome_of_words number None words =
      option_map_or (λ b. outcome_of_text b []) (kind.opened words) (outcome_of_fault None (BadHeader number))
  outcome_of_words number (Some b) words =
      option_map_or (λ (a : Answered B). outcome_of_text a.session a.text) (kind.made b words)
      (outcome_of_fault (Some b) (BadLine number))

  -- a line that isn't too long, without its echo
  abbrev pub outcome_of_short_line : (number : ℕ) → Option B → List ℕ → Outcome B
  outcome_of_short_line number b line =
      if not (list_all is_plain_byte line) then outcome_of_fault b (BadByte number)
      else if is_note line then record { session = b; text = []; fault = None }
      else outcome_of_words number b (words_of_text line)

  abbrev pub outcome_of_echoed_line : (number : ℕ) → Option B → List ℕ → Outcome B
  outcome_of_echoed_line number b line = echoed (echo_of kind.echo line) (outcome_of_short_line number b line)

  -- a line, with its number: the first fault of those that it has
  abbrev pub outcome_of_line : (number : ℕ) → Option B → List ℕ → Outcome B
  outcome_of_line number b line =
      if nat_lt 100000 number then outcome_of_fault b TooMany
      else if nat_lt 200 (length line) then outcome_of_fault b (TooLong number)
      else outcome_of_echoed_line number b line

  -- lines, numbered from here on
  abbrev pub outcome_of_lines : (number : ℕ) → Option B → List (List ℕ) → Outcome B
  outcome_of_lines number b [] = record { session = b; text = []; fault = None }
  outcome_of_lines number b (line ∷ lines) =
      and_then (outcome_of_line number b line) (λ after. outcome_of_lines (number + 1) after lines)

  -- a script
  abbrev pub outcome_of_script : List ℕ → Outcome B
  outcome_of_script bytes =
      and_then (outcome_of_lines 1 None (lines_of bytes)) (λ after. outcome_of_end (length (lines_of bytes)) after)
