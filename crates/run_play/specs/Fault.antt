-- What is told of a script that has no page, and the status that the program ends with.
use Rattle.std.specs.Prelude.{◌≡◌, ◌∷◌, ◌++◌, [], ℕ, List, Option, Bool, codes}
use Rattle.uni_script.specs.Fault.{fault_text}
use Rattle.uni_script.specs.Statuses.{IsStatusOf, TellsLine, status_of}
use Rattle.run_play.specs.declared.fault.PlayFault.{PlayFault}
use Rattle.run_play.specs.declared.fault.PlayFault.TheVariants.{Script, Refused, Eras, TooManyWorlds}

abbrev pub play_fault_text : PlayFault → List ℕ
play_fault_text (Script fault) = fault_text fault
play_fault_text Refused = codes "a command of the script is refused"
play_fault_text Eras = codes "the script has more than one era"
play_fault_text TooManyWorlds = codes "there are more than 20,000 worlds"

-- the status of a fault
abbrev pub status_of_play : PlayFault → ℕ
status_of_play (Script fault) = status_of fault
status_of_play Refused = 2
status_of_play Eras = 2
status_of_play TooManyWorlds = 2

-- the status of a fault, or that of refused memory for its text
abbrev pub IsStatusOfPlay : PlayFault → (status : ℕ) → Type 0
IsStatusOfPlay (Script fault) status = IsStatusOf fault status
IsStatusOfPlay Refused status = status ≡ 2
IsStatusOfPlay Eras status = status ≡ 2
IsStatusOfPlay TooManyWorlds status = status ≡ 2

-- known bytes grew by the line of a fault that ends with this status: by all of it, where the end hasn't failed, else by a prefix
abbrev pub TellsPlayFault : (old new : Option (List ℕ)) (failed : Bool) (status : ℕ) → Type 0
TellsPlayFault = TellsLine (λ fault status. status ≡ status_of_play fault) (λ fault. play_fault_text fault ++ 10 ∷ [])
