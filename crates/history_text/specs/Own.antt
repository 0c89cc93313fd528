-- What the lines `call P CALL`, `return P REPLY` and `lost P` tell.
use Rattle.std.specs.Prelude.{◌≡◌, ◌==◌, ◌&&◌, ◌||◌, Bool, true, false, ℕ, if◌then◌else◌, length, List, [], ◌∷◌, ◌++◌, Option, Some, None, option_map, option_and_then, codes, refl, ◌+◌, is_some}
use Rattle.std.specs.List.{slice_split}
use Rattle.std.specs.Str.{bytes_eq}
use Rattle.ready_objects.specs.Number.{number_below, number_of_word}
use Rattle.ready_objects.specs.Words.{words_of_text}
use Rattle.judged_objects.specs.Wording.{Wording}
use Rattle.judged_objects.specs.Queue.{queue_wording}
use Rattle.judged_objects.specs.declared.queue.QueueInv.TheVariants.{Enq, Deq}
use Rattle.judged_objects.specs.declared.queue.QueueResp.TheVariants.{Taken}
use Rattle.lin_check.specs.declared.event.Event.{Event}
use Rattle.history_text.specs.declared.fault.ReadError.{ReadError}
use Rattle.history_text.specs.declared.fault.ReadError.TheVariants.{Refused, Memory}
use Rattle.history_text.specs.Refused.{IsOnLine, IsRefusal}
use Rattle.history_text.specs.Told.{events_of}
use Rattle.history_text.specs.declared.history.Told.{Told}
use Rattle.history_text.specs.declared.history.Told.TheVariants.{Begins, Ends, Ceases}

-- the lines of a text, cut at each byte 10
abbrev pub lines_of : List ℕ → List (List ℕ)
lines_of text = slice_split (λ b. b == 10) text

-- a note is empty or begins with `#`
abbrev pub is_note : List ℕ → Bool
is_note [] = true
is_note (b ∷ bytes) = b == 35

-- what a verb and the words after the process tell of it
abbrev pub told_by : {I R : Type 0} → Wording I R → (verb : List ℕ) → (process : ℕ) → (rest : List (List ℕ)) → Option (Told I R)
told_by wording verb p rest =
    if bytes_eq verb (codes "call") then option_map (λ i. Begins p i) (wording.inv_of_words rest)
    else if bytes_eq verb (codes "return") then option_map (λ r. Ends p r) (wording.resp_of_words rest)
    else if bytes_eq verb (codes "lost") && (length rest == 0) then Some (Ceases p)
    else None

-- what the words of a line tell
abbrev pub told_of_words : {I R : Type 0} → Wording I R → List (List ℕ) → Option (Told I R)
told_of_words wording (verb ∷ process ∷ rest) = option_and_then (λ p. told_by wording verb p rest) (number_below 65536 process)
told_of_words wording _ = None

-- what a line tells, in a list: a note nothing; and no list, where it is no such line
abbrev pub line_tells : {I R : Type 0} → Wording I R → List ℕ → Option (List (Told I R))
line_tells wording line = if is_note line then Some [] else option_map (λ told. told ∷ []) (told_of_words wording (words_of_text line))

-- what lines tell, one after another: no list, where one of them is no such line
abbrev pub tolds_of : {I R : Type 0} → Wording I R → List (List ℕ) → Option (List (Told I R))
tolds_of wording [] = Some []
tolds_of wording (line ∷ lines) = option_and_then (λ told. option_map (λ tolds. told ++ tolds) (tolds_of wording lines)) (line_tells wording line)

-- what a line tells was added to what was told
pub record AddsLine {I R : Type 0} (wording : Wording I R) (line : List ℕ) (old new : List (Told I R)) : Type 0 where
  pub more : List (Told I R)
  pub tells : line_tells wording line ≡ Some more
  pub added : new ≡ old ++ more

-- the number of the first line that tells nothing and is no note, where the first one has this number
abbrev pub first_bad : {I R : Type 0} → Wording I R → (number : ℕ) → List (List ℕ) → Option ℕ
first_bad wording number [] = None
first_bad wording number (line ∷ lines) = if is_some (line_tells wording line) then first_bad wording (number + 1) lines else Some number

-- a refusal is of the line with this number, which tells nothing
pub record RefusesLine {I R : Type 0} (wording : Wording I R) (line : List ℕ) (number : ℕ) (error : ReadError) : Type 0 where
  pub on : IsOnLine number error
  pub bad : IsRefusal error → line_tells wording line ≡ None

-- a refusal is of the first line that tells nothing
abbrev pub RefusesFirst : {I R : Type 0} → Wording I R → List (List ℕ) → ReadError → Type 0
RefusesFirst wording lines (Refused fault) = first_bad wording 1 lines ≡ Some fault.line
RefusesFirst wording lines Memory = Unit {0}

-- a refusal is of the first line that tells nothing, where there is one
abbrev pub NamesFirstBad : {I R : Type 0} → Wording I R → List (List ℕ) → ReadError → Type 0
NamesFirstBad wording lines (Refused fault) = (number : ℕ) → first_bad wording 1 lines ≡ Some number → fault.line ≡ number
NamesFirstBad wording lines Memory = Unit {0}

the_second_line_is_bad : first_bad queue_wording 1 (codes "call 0 deq" ∷ codes "call 1 push 7" ∷ codes "cal" ∷ []) ≡ Some 2
unfolding number_below number_of_word
the_second_line_is_bad = refl

-- the history that the lines are
abbrev pub own_events : {I R : Type 0} → Wording I R → List (List ℕ) → Option (List (Event I R))
own_events wording lines = option_map events_of (tolds_of wording lines)

-- whether words begin as those of such a line
abbrev pub begins_own : List (List ℕ) → Bool
begins_own (word ∷ words) = bytes_eq word (codes "call") || bytes_eq word (codes "return") || bytes_eq word (codes "lost")
begins_own [] = false

-- whether lines are of this form: the first that isn't a note begins so, or each is a note
abbrev pub is_own : List (List ℕ) → Bool
is_own [] = true
is_own (line ∷ lines) = if is_note line then is_own lines else begins_own (words_of_text line)

a_queue_is_told : tolds_of queue_wording (codes "call 0 enq 7" ∷ codes "# a note" ∷ codes "call 1 deq" ∷ codes "return 1 7" ∷ codes "lost 0" ∷ [] ∷ [])
    ≡ Some (Begins 0 (Enq 7) ∷ Begins 1 Deq ∷ Ends 1 (Taken 7) ∷ Ceases 0 ∷ [])
unfolding number_below number_of_word
a_queue_is_told = refl

a_bad_line_tells_nothing : tolds_of queue_wording (codes "call 0 enq 7" ∷ codes "call 65536 deq" ∷ []) ≡ None
unfolding number_below number_of_word
a_bad_line_tells_nothing = refl
