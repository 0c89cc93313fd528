-- What is compared of a run.
use Rattle.std.specs.Prelude.{◌≡◌, ℕ, List, [], Option, Some, None}
use Rattle.uni_script.specs.declared.options.Options.{Options}
use Rattle.uni_script.specs.Scripts.{scripts}
use Rattle.uni_script.specs.Replay.{fault_of_script, text_of_script}
use Rattle.unibench_run.specs.CommandLine.{AsksFor}
use Rattle.unibench_run.specs.declared.request.Request.TheVariants.{Replay}

-- the words ask for the replay of a script, told this, and the reader has this one
abbrev pub AsksForReplayOf : (words : List (List ℕ)) → (options : Options) → (left : Option (List ℕ)) → (script : List ℕ)
    → Type 0
AsksForReplayOf words options left script = AsksFor words (Replay options) × (left ≡ Some script)

-- the script has no fault, and its answers make this text
abbrev pub IsAnsweredBy : (options : Options) → (script answers : List ℕ) → Type 0
IsAnsweredBy options script answers =
    (fault_of_script (scripts options) script ≡ None) × (text_of_script (scripts options) script ≡ answers)
