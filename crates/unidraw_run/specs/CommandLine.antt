-- What the words of the command line ask for, by clap's own account of a command.
use Rattle.std.specs.Prelude.{Bool, List, None, Option, Some, [], codes, false, filter, fold, if◌then◌else◌, map, nat_lt, option_and_then, option_map, refl, true, ℕ, ◌-◌, ◌^◌, ◌∷◌, ◌≡◌, ◌⊎◌}
use Rattle.unidraw_run.specs.Vocabulary.{App, ArgumentConflict, DisplayHelp, DisplayVersion, IsAmong, Kinds, Range, Row, Rule, Text, all_events, fault_of, flag, is_set, matches_of, new_app, new_rule, versioned, with_rule}
use Rattle.clap.proofs.OnLiterals.{clap_on_literals}
use Rattle.command_line.specs.Numbers.{in_range, number_in, value_of}
use Rattle.unidraw_run.specs.declared.program.Form.{Form}
use Rattle.unidraw_run.specs.declared.program.Form.TheVariants.{Full, History, Html, Json, Lines, Steps, Svg}
use Rattle.unidraw_run.specs.declared.program.Request.{Request}
use Rattle.unidraw_run.specs.declared.words.FormOption.{FormOption as FormOptionOfCode}

-- an option that asks for a form
pub record FormOption : Type 0 where
  pub name : Text
  pub form : Form

abbrev pub asks : (name : Text) → Form → FormOption
asks name form = record { name = name; form = form }

-- the options, in the order of the help: one for each form but an SVG
abbrev pub form_options : List FormOption
form_options =
    asks (codes "text") (Lines all_events 100) ∷ asks (codes "steps") (Steps all_events) ∷ asks (codes "json") (Json all_events)
    ∷ asks (codes "full") (Full all_events) ∷ asks (codes "html") (Html all_events) ∷ asks (codes "history") History ∷ []

-- an option whose value is the number of an event
abbrev pub event_option : (name : Text) → Rule
event_option name = in_range (record (new_rule name) { long = Some name; value_names = 1 }) 0 (2 ^ 64 - 1)

-- one whose value says how many columns a line has at most
abbrev pub columns_option : Rule
columns_option = in_range (record (new_rule (codes "columns")) { long = Some (codes "columns"); value_names = 1 }) 40 1000

-- a program with these options more
abbrev pub with_options : App → List FormOption → App
with_options = fold (λ app o. with_rule app (flag o.name))

-- the program has a version, the options of forms, two that choose events, one that says how long a line is, and one that asks why a
-- line is bad
abbrev pub unidraw : App
unidraw = with_rule (with_rule (with_rule (with_rule (with_options (versioned (new_app (codes "unidraw"))) form_options)
    (event_option (codes "from"))) (event_option (codes "to"))) columns_option) (flag (codes "explain"))

-- the forms whose options are used, in the order of these
abbrev pub forms_used : List Row → List FormOption → List Form
forms_used rows options = map (λ o. o.form) (filter (λ o. is_set o.name rows) options)

-- the form that is asked for where a further option is used: its own in place of an SVG, and the whole memory only beside a trace
abbrev pub form_with : Option Form → Form → Option Form
form_with (Some (Json all)) (Full range) = Some (Full range)
form_with (Some (Svg all)) (Full range) = None
form_with (Some (Svg all)) form = Some form
form_with _ _ = None

-- the form that is asked for, by all whose options are used: an SVG where none is, and no form where they don't go together
abbrev pub form_among : List Form → Option Form
form_among = fold form_with (Some (Svg all_events))

-- the events that are chosen, where an option says from which one on, or up to which one
abbrev pub range_with : (from to : Option ℕ) → Option Range
range_with None None = None
range_with (Some from) to = Some (record { from = from; to = to })
range_with None (Some to) = Some (record { from = 0; to = Some to })

abbrev pub range_in : List Row → Option Range
range_in rows =
    range_with (value_of (number_in 0 (2 ^ 64 - 1)) (codes "from") rows) (value_of (number_in 0 (2 ^ 64 - 1)) (codes "to") rows)

-- a form with some events chosen: there is such a choice but of a history
abbrev pub ranged : Range → Form → Option Form
ranged range (Svg all) = Some (Svg range)
ranged range (Lines all columns) = Some (Lines range columns)
ranged range (Steps all) = Some (Steps range)
ranged range (Json all) = Some (Json range)
ranged range (Full all) = Some (Full range)
ranged range (Html all) = Some (Html range)
ranged range History = None

-- an event comes after the last one, if there is a last
abbrev pub comes_after : (event : ℕ) → (last : Option ℕ) → Bool
comes_after event None = false
comes_after event (Some last) = nat_lt last event

-- a form with the events that are chosen, if they are: none where the first one comes after the last
abbrev pub with_range : Option Range → Form → Option Form
with_range None form = Some form
with_range (Some range) form = if comes_after range.from range.to then None else ranged range form

-- a form with its longest line, if that is chosen: there is no such choice but of lines
abbrev pub with_columns : Option ℕ → Form → Option Form
with_columns None form = Some form
with_columns (Some columns) (Lines range default) = Some (Lines range columns)
with_columns (Some columns) form = None

abbrev pub form_in : List Row → Option Form
form_in rows = option_and_then (with_columns (value_of (number_in 40 1000) (codes "columns") rows))
    (option_and_then (with_range (range_in rows)) (form_among (forms_used rows form_options)))

-- what is asked for: a form, and whether the reason of a bad line is told
abbrev pub request_in : List Row → Option Request
request_in rows = option_map (λ form. record { form = form; is_explained = is_set (codes "explain") rows }) (form_in rows)

-- the kinds of fault, where options that don't go together are a conflict
abbrev pub faults_with : Kinds → Option Request → Kinds
faults_with [] None = ArgumentConflict ∷ []
faults_with [] (Some request) = []
faults_with (kind ∷ kinds) request = kind ∷ kinds

-- the kinds of the first fault that these words have, of which the program's name is the first
abbrev pub faults_of_words : List Text → Kinds
faults_of_words words = faults_with (fault_of unidraw words) (request_in (matches_of unidraw words))

-- a request, where there is no fault
abbrev pub unless_faulty : Kinds → Option Request → Option Request
unless_faulty [] request = request
unless_faulty (kind ∷ kinds) request = None

-- what the words of a command line ask for, the program's name first
abbrev pub request_of_words : List Text → Option Request
request_of_words words = unless_faulty (fault_of unidraw words) (request_in (matches_of unidraw words))

-- and in which form
abbrev pub form_of_words : List Text → Option Form
form_of_words words = option_map (λ r. r.form) (request_of_words words)

-- they may ask for the help or the version
abbrev pub MayAskForHelp : List Text → Type 0
MayAskForHelp words = IsAmong DisplayHelp (faults_of_words words) ⊎ IsAmong DisplayVersion (faults_of_words words)

-- they ask for nothing that the program does
abbrev pub IsRefused : List Text → Type 0
IsRefused words = (form_of_words words ≡ None) × ¬ (MayAskForHelp words)

-- no word asks for an SVG of all events; a trace of the whole memory goes together with a choice of events and a reason, and a history
-- with no such choice, whatever the program's name is; further command lines are stored cases
form_without_words : (name : Text) → form_of_words (name ∷ []) ≡ Some (Svg all_events)
unfolding clap_on_literals
form_without_words name = refl

full_from_ten_to_twenty : (name : Text) → request_of_words (name ∷ codes "--json" ∷ codes "--from" ∷ codes "10" ∷ codes "--to=20"
    ∷ codes "--explain" ∷ codes "--full" ∷ []) ≡ Some (record { form = Full (record { from = 10; to = Some 20 }); is_explained = true })
unfolding clap_on_literals
full_from_ten_to_twenty name = refl

history_from_ten_is_a_fault : (name : Text)
    → faults_of_words (name ∷ codes "--history" ∷ codes "--from" ∷ codes "10" ∷ []) ≡ ArgumentConflict ∷ []
unfolding clap_on_literals
history_from_ten_is_a_fault name = refl

abbrev pub option_shown : FormOptionOfCode → FormOption
option_shown o = asks o.name.now o.form
