-- What a status says of the history that a text is.
use Rattle.std.specs.Prelude.{◌≡◌, ◌<◌, ◌++◌, ◌∷◌, ◌⊎◌, ℕ, Bool, true, false, List, [], Option, None, Some, IsSomeAnd, refl}
use Rattle.std.specs.List.{count_by}
use Rattle.std.specs.Io.KnownBytes.{Appends}
use Rattle.seq_object.specs.Sequential.{Sequential}
use Rattle.lin_check.specs.declared.event.Event.{Event}
use Rattle.lin_check.specs.declared.event.Event.TheVariants.{Call, Return}
use Rattle.lin_check.specs.Verdicts.{IsLinearizable}
use Rattle.judged_objects.specs.Wording.{Wording}
use Rattle.judged_objects.specs.Queue.{queue, queue_wording}
use Rattle.judged_objects.specs.Stack.{stack, stack_wording}
use Rattle.judged_objects.specs.Register.{register, register_wording}
use Rattle.judged_objects.specs.Counter.{counter, counter_wording}
use Rattle.judged_objects.specs.Map.{map_object, map_wording}
use Rattle.judged_objects.specs.Set.{set, set_wording}
use Rattle.history_picture.specs.Picture.{IsPageOf, IsPictureOf}
use Rattle.history_picture.specs.declared.scene.Scene.{Scene}
use Rattle.history_text.specs.Own.{is_own, lines_of, own_events}
use Rattle.history_text.specs.Turns.{IsReadable}
use Rattle.unicheck_run.specs.Found.{verdict}
use Rattle.unicheck_run.specs.declared.words.Form.{Form}
use Rattle.unicheck_run.specs.declared.words.Form.TheVariants.{Lines, Order, Svg, Html}
use Rattle.unicheck_run.specs.declared.words.ObjectName.{ObjectName}
use Rattle.unicheck_run.specs.declared.words.ObjectName.TheVariants.{Queue, Stack, Register, Counter, Map, Set}

-- status 0 says that a history is linearizable, and status 1 that it isn't
pub record Says {S I R : Type 0} (object : Sequential S I R) (history : List (Event I R)) (status : ℕ) : Type 0 where
  pub linearizable : status ≡ 0 → IsLinearizable object history
  pub not_linearizable : status ≡ 1 → ¬ (IsLinearizable object history)

-- The same of the history that lines are. Where a line can't be read there is none: the status is 2, or 4 where memory was refused before
-- that was seen.
abbrev pub SaysOfLines : {S I R : Type 0} → Sequential S I R → Option (List (Event I R)) → (status : ℕ) → Type 0
SaysOfLines object None status = (status ≡ 2) ⊎ (status ≡ 4)
SaysOfLines object (Some history) status = Says object history status

-- the same of a text of the form of `call`, `return` and `lost`
abbrev pub SaysOfText : {S I R : Type 0} → Sequential S I R → Wording I R → (text : List ℕ) → (status : ℕ) → Type 0
SaysOfText object wording text status = is_own (lines_of text) ≡ true → SaysOfLines object (own_events wording (lines_of text)) status

-- the same of the object of a name
abbrev pub SaysBy : ObjectName → (text : List ℕ) → (status : ℕ) → Type 0
SaysBy Queue text status = SaysOfText queue queue_wording text status
SaysBy Stack text status = SaysOfText stack stack_wording text status
SaysBy Register text status = SaysOfText register register_wording text status
SaysBy Counter text status = SaysOfText counter counter_wording text status
SaysBy Map text status = SaysOfText map_object map_wording text status
SaysBy Set text status = SaysOfText set set_wording text status

-- whether an event begins a call, and how many do
abbrev pub is_call : {I R : Type 0} → Event I R → Bool
is_call (Call p i) = true
is_call (Return p r) = false

abbrev pub calls_of : {I R : Type 0} → List (Event I R) → ℕ
calls_of events = count_by is_call events

-- two processes: 1 calls, 0 calls, 1 returns and calls again
three_calls : calls_of {I = ℕ} {R = ℕ} (Call 1 5 ∷ Call 0 3 ∷ Return 1 7 ∷ Call 1 4 ∷ []) ≡ 3
three_calls = refl

-- a picture has at most 400 calls
abbrev pub IsTooLarge : Form → (calls : ℕ) → Type 0
IsTooLarge Lines calls = ⊥
IsTooLarge Order calls = ⊥
IsTooLarge Svg calls = 400 < calls
IsTooLarge Html calls = 400 < calls

-- status 2 says of such a text that a line is refused, or that a picture is asked for of too many calls
abbrev pub RefusesText : {I R : Type 0} → Wording I R → Form → (text : List ℕ) → (status : ℕ) → Type 0
RefusesText wording form text status = is_own (lines_of text) ≡ true → status ≡ 2 → ¬ (IsReadable wording (lines_of text))
    ⊎ IsSomeAnd (own_events wording (lines_of text)) (λ history. IsTooLarge form (calls_of history))

-- the same by the words of the object of a name
abbrev pub RefusesBy : ObjectName → Form → (text : List ℕ) → (status : ℕ) → Type 0
RefusesBy Queue form text status = RefusesText queue_wording form text status
RefusesBy Stack form text status = RefusesText stack_wording form text status
RefusesBy Register form text status = RefusesText register_wording form text status
RefusesBy Counter form text status = RefusesText counter_wording form text status
RefusesBy Map form text status = RefusesText map_wording form text status
RefusesBy Set form text status = RefusesText set_wording form text status

-- a line comes first
abbrev pub BeginsWithLine : (line written : List ℕ) → Type 0
BeginsWithLine line written = (more : List ℕ) × (written ≡ line ++ 10 ∷ more)

-- a picture, or a page with one, is that of a scene with a title
abbrev pub Draws : (IsDrawn : Scene → List ℕ → Type 0) → (title written : List ℕ) → Type 0
Draws IsDrawn title written = (scene : Scene) × (scene.title.items ≡ title) × IsDrawn scene written

-- what is written in a form says what was found: in its first line, or as the title of a picture
abbrev pub Shows : Form → (found written : List ℕ) → Type 0
Shows Lines found written = BeginsWithLine found written
Shows Order found written = BeginsWithLine found written
Shows Svg found written = Draws IsPictureOf found written
Shows Html found written = Draws IsPageOf found written

-- with the status of a finding known bytes grow by what says it
abbrev pub Writes : Form → (status : ℕ) → (old new : Option (List ℕ)) → Type 0
Writes form status old new = (status < 2) ⊎ (status ≡ 5) → (written : List ℕ) × Shows form (verdict status) written × Appends old new written
