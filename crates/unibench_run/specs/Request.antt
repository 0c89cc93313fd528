-- What the values of the options of `replay`, `random` and `threads` are.
use Rattle.std.specs.Prelude.{◌≡◌, ◌-◌, ◌^◌, ℕ, List, [], ◌∷◌, Option, None, Some, option_map, map}
use Rattle.std.specs.Prelude.{codes, if◌then◌else◌, refl}
use Rattle.std.specs.Str.{bytes_eq}
use Rattle.clap.specs.Words.{Row, Text, first_of}
use Rattle.uni_script.specs.declared.grammar.ObjectName.{ObjectName}
use Rattle.uni_script.specs.Grammar.{object_of_word}
use Rattle.command_line.specs.Flags.{is_set}
use Rattle.command_line.specs.Numbers.{number_in, value_of}
use Rattle.uni_script.specs.declared.options.Options.{Options}
use Rattle.uni_script.specs.declared.options.Echo.{Echo}
use Rattle.uni_script.specs.declared.options.Echo.TheVariants.{Off, On}
use Rattle.unibench_run.specs.declared.request.Form.{Form}
use Rattle.unibench_run.specs.declared.request.Form.TheVariants as form
use Rattle.unibench_run.specs.declared.request.ThreadsObject.{ThreadsObject}
use Rattle.unibench_run.specs.declared.request.ThreadsObject.TheVariants as object
use Rattle.unibench_run.specs.declared.request.Plan.{Plan}
use Rattle.unibench_run.specs.declared.request.RandomPlan.{RandomPlan}

abbrev pub form_named : Text → Option Form
form_named name =
    if bytes_eq name (codes "lock") then Some form.Lock
    else if bytes_eq name (codes "shared") then Some form.Lock
    else if bytes_eq name (codes "words") then Some form.Words
    else if bytes_eq name (codes "small") then Some form.Small
    else if bytes_eq name (codes "any") then Some form.Any
    else None

abbrev pub object_named : Text → Option ThreadsObject
object_named name =
    if bytes_eq name (codes "queue") then Some object.Queue
    else if bytes_eq name (codes "directory") then Some object.Directory
    else if bytes_eq name (codes "book") then Some object.Book
    else if bytes_eq name (codes "sticky") then Some object.Sticky
    else if bytes_eq name (codes "tally") then Some object.Tally
    else if bytes_eq name (codes "counter") then Some object.Counter
    else if bytes_eq name (codes "counters") then Some object.Counters
    else if bytes_eq name (codes "register") then Some object.Register
    else if bytes_eq name (codes "stack") then Some object.Stack
    else if bytes_eq name (codes "map") then Some object.Map
    else None

-- whether lines are written before their answers
abbrev pub echo_in : List Row → Echo
echo_in rows = if is_set (codes "echo") rows then On else Off

-- what a replay is told by the values of the options, if the history is one that its option takes
abbrev pub options_of : List Row → Option Options
options_of rows = option_map (λ h. record { history = h; echo = echo_in rows }) (value_of (number_in 1 16777216) (codes "history") rows)

-- what the language is asked of by a word: all of it where there is none, and else the object that it names
abbrev pub subject_named : Option Text → Option (Option ObjectName)
subject_named None = Some None
subject_named (Some name) = option_map Some (object_of_word name)

abbrev pub subject_of : List Row → Option (Option ObjectName)
subject_of rows = subject_named (first_of (codes "object") rows)

-- the plan of these values, if each is there
abbrev pub plan_with : Option Form → Option ThreadsObject → (processes calls seed : Option ℕ) → Option Plan
plan_with (Some f) (Some o) (Some n) (Some c) (Some s) = Some (record { form = f; object = o; processes = n; calls = c; seed = s })
plan_with _ _ _ _ _ = None

-- the plan that the values of the options are, if each is one that its option takes
abbrev pub plan_of : List Row → Option Plan
plan_of rows = plan_with (value_of form_named (codes "form") rows) (value_of object_named (codes "object") rows)
    (value_of (number_in 1 64) (codes "processes") rows)
    (value_of (number_in 1 10000000) (codes "calls") rows)
    (value_of (number_in 0 (2 ^ 64 - 1)) (codes "seed") rows)

-- the plan of a schedule of these values, if each is there
abbrev pub random_with : Option ObjectName → (processes row events seed : Option ℕ) → Option RandomPlan
random_with (Some o) (Some n) (Some k) (Some m) (Some s) =
    Some (record { schedule = record { object = o; processes = n; row = k; events = m }; seed = s })
random_with _ _ _ _ _ = None

-- the plan of a schedule that the values of the options are, if each is one that its option takes
abbrev pub random_of : List Row → Option RandomPlan
random_of rows = random_with (value_of object_of_word (codes "object") rows)
    (value_of (number_in 1 64) (codes "processes") rows)
    (value_of (number_in 1 4096) (codes "row") rows)
    (value_of (number_in 1 99000) (codes "events") rows)
    (value_of (number_in 0 (2 ^ 64 - 1)) (codes "seed") rows)

-- the least and the greatest number that each option takes, and the numbers beside them
history_is_1_to_16777216 : map (number_in 1 16777216) (codes "0" ∷ codes "1" ∷ codes "16777216" ∷ codes "16777217" ∷ [])
    ≡ None ∷ Some 1 ∷ Some 16777216 ∷ None ∷ []
history_is_1_to_16777216 = refl

processes_are_1_to_64 : map (number_in 1 64) (codes "0" ∷ codes "1" ∷ codes "64" ∷ codes "65" ∷ [])
    ≡ None ∷ Some 1 ∷ Some 64 ∷ None ∷ []
processes_are_1_to_64 = refl

rows_are_1_to_4096 : map (number_in 1 4096) (codes "0" ∷ codes "1" ∷ codes "4096" ∷ codes "4097" ∷ [])
    ≡ None ∷ Some 1 ∷ Some 4096 ∷ None ∷ []
rows_are_1_to_4096 = refl

calls_are_1_to_10000000 : map (number_in 1 10000000) (codes "0" ∷ codes "1" ∷ codes "10000000" ∷ codes "10000001" ∷ [])
    ≡ None ∷ Some 1 ∷ Some 10000000 ∷ None ∷ []
calls_are_1_to_10000000 = refl

events_are_1_to_99000 : map (number_in 1 99000) (codes "0" ∷ codes "1" ∷ codes "99000" ∷ codes "99001" ∷ [])
    ≡ None ∷ Some 1 ∷ Some 99000 ∷ None ∷ []
events_are_1_to_99000 = refl

seeds_have_64_bits : map (number_in 0 (2 ^ 64 - 1)) (codes "0" ∷ codes "18446744073709551615" ∷ codes "18446744073709551616" ∷ [])
    ≡ Some 0 ∷ Some 18446744073709551615 ∷ None ∷ []
seeds_have_64_bits = refl

five_words_are_forms : map form_named (codes "lock" ∷ codes "shared" ∷ codes "words" ∷ codes "small" ∷ codes "any" ∷ codes "locks" ∷ [])
    ≡ Some form.Lock ∷ Some form.Lock ∷ Some form.Words ∷ Some form.Small ∷ Some form.Any ∷ None ∷ []
five_words_are_forms = refl

ten_words_are_objects : map object_named (codes "queue" ∷ codes "directory" ∷ codes "book" ∷ codes "sticky" ∷ codes "tally"
    ∷ codes "counter" ∷ codes "counters" ∷ codes "register" ∷ codes "stack" ∷ codes "map" ∷ codes "ring" ∷ [])
    ≡ Some object.Queue ∷ Some object.Directory ∷ Some object.Book ∷ Some object.Sticky ∷ Some object.Tally
    ∷ Some object.Counter ∷ Some object.Counters ∷ Some object.Register ∷ Some object.Stack ∷ Some object.Map ∷ None ∷ []
ten_words_are_objects = refl
