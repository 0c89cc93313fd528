-- The statuses with which the program ends.
use Rattle.std.specs.Prelude.{◌≡◌, ◌≢◌, ◌≤◌, ◌⊎◌, ℕ, List, Option, Some, Bool}
use Rattle.clap.specs.Words.{Text}
use Rattle.uni_script.specs.Statuses.{TellsFault, TellsLine}
use Rattle.script_advice.specs.Told.{TellsMore}
use Rattle.unibench_run.specs.CommandLine.{AsksFor}
use Rattle.unibench_run.specs.Threads.{line_of_fault, refusal_of}
use Rattle.unibench_run.specs.declared.request.Form.TheVariants.{Words}
use Rattle.unibench_run.specs.declared.request.Plan.{Plan}
use Rattle.unibench_run.specs.declared.request.Request.{Request}
use Rattle.unibench_run.specs.declared.request.Request.TheVariants.{Replay, Explained, Random, Threads, Language}
use Rattle.unibench_run.specs.declared.threads.ThreadsFault.{ThreadsFault}
use Rattle.unibench_run.specs.declared.threads.ThreadsFault.TheVariants as fault

-- the status that a fault of threads ends with
abbrev pub status_of_threads : ThreadsFault → ℕ
status_of_threads fault.NoSuchObject = 2
status_of_threads fault.CallsTooMany = 2
status_of_threads fault.Write = 3
status_of_threads fault.Memory = 4
status_of_threads _ = 5

-- the status of a fault of threads, or that of refused memory for the text of a closing or its audit
abbrev pub IsStatusOfThreads : ThreadsFault → (status : ℕ) → Type 0
IsStatusOfThreads fault status = (status ≡ status_of_threads fault) ⊎ ((status_of_threads fault ≡ 5) × (status ≡ 4))

-- a fault of threads that ends with this status. Where that is 2, it is the one that is refused
abbrev pub EndsThreads : (refusal : Option ThreadsFault) → ThreadsFault → (status : ℕ) → Type 0
EndsThreads refusal fault status = (status ≡ status_of_threads fault) × (status ≡ 2 → refusal ≡ Some fault)

abbrev pub TellsThreadsFault : (refusal : Option ThreadsFault) (old new : Option (List ℕ)) (failed : Bool) (status : ℕ) → Type 0
TellsThreadsFault refusal = TellsLine (EndsThreads refusal) line_of_fault

-- what is told of a fault depends on what was asked for
abbrev pub Tells : Request → (old new : Option (List ℕ)) (failed : Bool) (status : ℕ) → Type 0
Tells (Replay options) = TellsFault
Tells (Explained options) = TellsMore
Tells (Random plan) = TellsFault
Tells (Threads plan) = TellsThreadsFault (refusal_of plan)
Tells (Language object) = TellsFault

-- a status of the program: 5 only where the words ask for threads under a lock or on an object of several words
pub record IsStatusFor (words : List Text) (status : ℕ) : Type 0 where
  pub most : status ≤ 5
  pub not_1 : status ≢ 1
  pub closing : status ≡ 5 → (plan : Plan) × AsksFor words (Threads plan) × (plan.form ≢ Words)
