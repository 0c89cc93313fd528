-- What the words of the command line ask for, by clap's own account of a command without options.
use Rattle.std.specs.Prelude.{◌≡◌, ◌⊎◌, ◌-◌, ◌^◌, ℕ, List, [], ◌∷◌, ◌++◌, Option, None, Some, option_map, map}
use Rattle.std.specs.Prelude.{if◌then◌else◌, true, codes, refl}
use Rattle.std.specs.Str.{bytes_eq}
use Rattle.clap.specs.Words.{App, Row, Rule, Text, Kinds, IsAmong, new_app, new_rule, with_rule, with_subcommand, subcommand_of, fault_of}
use Rattle.clap.proofs.OnLiterals.{clap_on_literals}
use Rattle.clap.specs.declared.error.kind.ErrorKind.TheVariants.{DisplayHelp, DisplayVersion, InvalidSubcommand, MissingSubcommand}
use Rattle.clap.specs.declared.error.kind.ErrorKind.TheVariants.{UnknownArgument, ValueValidation}
use Rattle.command_line.specs.Flags.{flag, is_set, versioned}
use Rattle.command_line.specs.Numbers.{in_range}
use Rattle.ready_objects.specs.Words.{words_of_text}
use Rattle.uni_script.specs.declared.grammar.ObjectName.TheVariants as shared
use Rattle.uni_script.specs.declared.options.Options.{Options}
use Rattle.uni_script.specs.declared.options.Echo.TheVariants.{Off, On}
use Rattle.unibench_run.specs.Request.{options_of, plan_of, random_of, subject_of}
use Rattle.unibench_run.specs.declared.request.Request.{Request}
use Rattle.unibench_run.specs.declared.request.Request.TheVariants.{Replay, Explained, Random, Threads, Language}
use Rattle.unibench_run.specs.declared.request.Form.TheVariants.{Lock, Words}
use Rattle.unibench_run.specs.declared.request.ThreadsObject.TheVariants.{Queue, Tally}

-- a command that needs one of its subcommands
abbrev pub needs_subcommand : App → App
needs_subcommand app = record app { top = record app.top { subcommand_required = true } }

-- an option that takes a value, for which help has a name, with the value that it has where it isn't used
abbrev pub option : (name value : Text) → Rule
option name value = record (new_rule name) { long = Some name; value_names = 1; defaults = value ∷ [] }

-- a word that isn't an option, for which help has a name
abbrev pub operand : (name : Text) → Rule
operand name = record (new_rule name) { value_names = 1 }

abbrev pub replay_command : App
replay_command =
    with_rule (with_rule (with_rule (new_app (codes "replay"))
    (in_range (option (codes "history") (codes "1048576")) 1 16777216))
    (flag (codes "explain")))
    (flag (codes "echo"))

abbrev pub random_command : App
random_command =
    with_rule (with_rule (with_rule (with_rule (with_rule (new_app (codes "random"))
    (option (codes "object") (codes "queue")))
    (in_range (option (codes "processes") (codes "2")) 1 64))
    (in_range (option (codes "row") (codes "64")) 1 4096))
    (in_range (option (codes "seed") (codes "1")) 0 (2 ^ 64 - 1)))
    (in_range (option (codes "events") (codes "100")) 1 99000)

abbrev pub threads_command : App
threads_command =
    with_rule (with_rule (with_rule (with_rule (with_rule (new_app (codes "threads"))
    (option (codes "form") (codes "lock")))
    (option (codes "object") (codes "queue")))
    (in_range (option (codes "processes") (codes "2")) 1 64))
    (in_range (option (codes "calls") (codes "100")) 1 10000000))
    (in_range (option (codes "seed") (codes "1")) 0 (2 ^ 64 - 1))

abbrev pub language_command : App
language_command = with_rule (new_app (codes "language")) (operand (codes "object"))

-- the program has a version, and four subcommands, of which it needs one
abbrev pub unibench : App
unibench =
    with_subcommand (with_subcommand (with_subcommand (with_subcommand (needs_subcommand (versioned (new_app (codes "unibench"))))
    replay_command.top) random_command.top) threads_command.top) language_command.top

-- the kinds of the first fault that these words have, of which the program's name is the first
abbrev pub faults_of_words : List Text → Kinds
faults_of_words words = fault_of unibench words

-- the replay that is asked for, by the matches of its subcommand
abbrev pub replay_in : List Row → Option Request
replay_in rows = option_map (if is_set (codes "explain") rows then Explained else Replay) (options_of rows)

-- what the subcommand asks for, by its name and its matches; nothing where an option has a value that it doesn't take
abbrev pub request_in : Option (Text × List Row) → Option Request
request_in None = None
request_in (Some (name, rows)) =
    if bytes_eq name (codes "random") then option_map Random (random_of rows)
    else if bytes_eq name (codes "threads") then option_map Threads (plan_of rows)
    else if bytes_eq name (codes "language") then option_map Language (subject_of rows)
    else replay_in rows

-- what words without a fault ask for
abbrev pub asked_of : List Text → Option Request
asked_of words = request_in (subcommand_of unibench words)

-- the words have no fault, and this is what they ask for
abbrev pub AsksFor : List Text → Request → Type 0
AsksFor words request = (faults_of_words words ≡ []) × (asked_of words ≡ Some request)

-- they ask for the replay of a script, explained or not
abbrev pub AsksForReplay : List Text → Type 0
AsksForReplay words = (options : Options) × (AsksFor words (Replay options) ⊎ AsksFor words (Explained options))

-- they ask for nothing that the program does
abbrev pub AsksForNothing : List Text → Type 0
AsksForNothing words = (request : Request) → ¬ (AsksFor words request)

-- the words may ask for the help or the version
abbrev pub MayAskForHelp : List Text → Type 0
MayAskForHelp words = IsAmong DisplayHelp (faults_of_words words) ⊎ IsAmong DisplayVersion (faults_of_words words)

-- they ask for nothing that the program does
abbrev pub IsRefused : List Text → Type 0
IsRefused words = AsksForNothing words × ¬ (MayAskForHelp words)

-- whatever the program's name is, of the words that come after it: what they ask for, the kinds of their first fault, and both
abbrev asked : (name : Text) → (words : Text) → Option Request
asked name words = asked_of (name ∷ words_of_text words)

abbrev faults : (name : Text) → (words : Text) → Kinds
faults name words = faults_of_words (name ∷ words_of_text words)

abbrev answers : (name before : Text) → (values : List Text) → List (Kinds × Option Request)
answers name before values = map (λ value. (faults name (before ++ value), asked name (before ++ value))) values

abbrev asks : Request → Kinds × Option Request
asks request = ([], Some request)

-- a value that the option doesn't take
abbrev refused : Kinds × Option Request
refused = (ValueValidation ∷ [], None)

abbrev random_request : (processes row events seed : ℕ) → Request
random_request processes row events seed =
    Random (record { schedule = record { object = shared.Queue; processes = processes; row = row; events = events }; seed = seed })

abbrev threads_request : (processes calls seed : ℕ) → Request
threads_request processes calls seed = Threads (record { form = Lock; object = Queue; processes = processes; calls = calls; seed = seed })

requests : (name : Text) → answers name [] (codes "replay" ∷ codes "replay --history 23" ∷ codes "replay --explain --history=23"
    ∷ codes "replay --echo" ∷ codes "language" ∷ codes "language book" ∷ codes "random" ∷ codes "threads"
    ∷ codes "random --object book --processes=17 --row 8 --events=20" ∷ codes "threads --form words --object=tally --processes 8" ∷ [])
    ≡ map asks (Replay (record { history = 1048576; echo = Off }) ∷ Replay (record { history = 23; echo = Off })
    ∷ Explained (record { history = 23; echo = Off }) ∷ Replay (record { history = 1048576; echo = On })
    ∷ Language None ∷ Language (Some shared.Book) ∷ random_request 2 64 100 1 ∷ threads_request 2 100 1
    ∷ Random (record { schedule = record { object = shared.Book; processes = 17; row = 8; events = 20 }; seed = 1 })
    ∷ Threads (record { form = Words; object = Tally; processes = 8; calls = 100; seed = 1 }) ∷ [])
unfolding clap_on_literals
requests name = refl

first_faults : (name : Text) → map (faults name) (codes "--help" ∷ codes "replay -h" ∷ codes "--version" ∷ codes "-V" ∷ codes "play"
    ∷ codes "replay now" ∷ codes "replay queue.script" ∷ codes "replay -" ∷ codes "language queue book" ∷ [])
    ≡ (DisplayHelp ∷ []) ∷ (DisplayHelp ∷ []) ∷ (DisplayVersion ∷ []) ∷ (DisplayVersion ∷ []) ∷ (UnknownArgument ∷ InvalidSubcommand ∷ [])
    ∷ (UnknownArgument ∷ []) ∷ (UnknownArgument ∷ []) ∷ (UnknownArgument ∷ []) ∷ (UnknownArgument ∷ []) ∷ []
unfolding clap_on_literals
first_faults name = refl

nothing_is_asked : (name : Text) → faults_of_words (name ∷ []) ≡ MissingSubcommand ∷ []
unfolding clap_on_literals
nothing_is_asked name = refl

-- a word that names nothing is no fault of clap's, and asks for nothing
words_that_name_nothing : (name : Text) → answers name [] (codes "language tally" ∷ codes "random --object tally"
    ∷ codes "threads --object ring" ∷ codes "threads --form locks" ∷ []) ≡ ([], None) ∷ ([], None) ∷ ([], None) ∷ ([], None) ∷ []
unfolding clap_on_literals
words_that_name_nothing name = refl

-- the least and the greatest number that each option takes, and the numbers beside them
history_of_replay : (name : Text) → answers name (codes "replay --history ") (codes "0" ∷ codes "1" ∷ codes "16777216" ∷ codes "16777217" ∷ [])
    ≡ refused ∷ asks (Replay (record { history = 1; echo = Off })) ∷ asks (Replay (record { history = 16777216; echo = Off })) ∷ refused ∷ []
unfolding clap_on_literals
history_of_replay name = refl

processes_of_random : (name : Text) → answers name (codes "random --processes ") (codes "0" ∷ codes "1" ∷ codes "64" ∷ codes "65" ∷ [])
    ≡ refused ∷ asks (random_request 1 64 100 1) ∷ asks (random_request 64 64 100 1) ∷ refused ∷ []
unfolding clap_on_literals
processes_of_random name = refl

row_of_random : (name : Text) → answers name (codes "random --row ") (codes "0" ∷ codes "1" ∷ codes "4096" ∷ codes "4097" ∷ [])
    ≡ refused ∷ asks (random_request 2 1 100 1) ∷ asks (random_request 2 4096 100 1) ∷ refused ∷ []
unfolding clap_on_literals
row_of_random name = refl

events_of_random : (name : Text) → answers name (codes "random --events ") (codes "0" ∷ codes "1" ∷ codes "99000" ∷ codes "99001" ∷ [])
    ≡ refused ∷ asks (random_request 2 64 1 1) ∷ asks (random_request 2 64 99000 1) ∷ refused ∷ []
unfolding clap_on_literals
events_of_random name = refl

seed_of_random : (name : Text)
    → answers name (codes "random --seed ") (codes "0" ∷ codes "18446744073709551615" ∷ codes "18446744073709551616" ∷ [])
    ≡ asks (random_request 2 64 100 0) ∷ asks (random_request 2 64 100 18446744073709551615) ∷ refused ∷ []
unfolding clap_on_literals
seed_of_random name = refl

processes_of_threads : (name : Text) → answers name (codes "threads --processes ") (codes "0" ∷ codes "1" ∷ codes "64" ∷ codes "65" ∷ [])
    ≡ refused ∷ asks (threads_request 1 100 1) ∷ asks (threads_request 64 100 1) ∷ refused ∷ []
unfolding clap_on_literals
processes_of_threads name = refl

calls_of_threads : (name : Text) → answers name (codes "threads --calls ") (codes "0" ∷ codes "1" ∷ codes "10000000" ∷ codes "10000001" ∷ [])
    ≡ refused ∷ asks (threads_request 2 1 1) ∷ asks (threads_request 2 10000000 1) ∷ refused ∷ []
unfolding clap_on_literals
calls_of_threads name = refl

seed_of_threads : (name : Text)
    → answers name (codes "threads --seed ") (codes "0" ∷ codes "18446744073709551615" ∷ codes "18446744073709551616" ∷ [])
    ≡ asks (threads_request 2 100 0) ∷ asks (threads_request 2 100 18446744073709551615) ∷ refused ∷ []
unfolding clap_on_literals
seed_of_threads name = refl
