-- What is told of a bad script with the reason.
use Rattle.std.specs.Prelude.{◌≡◌, ◌++◌, ℕ, List, Option, Bool}
use Rattle.uni_script.specs.Fault.{fault_line}
use Rattle.uni_script.specs.Statuses.{TellsLine, status_of}

-- known bytes grew by the line of a fault of a script that ends with this status, and by some text after it
abbrev pub TellsMore : (old new : Option (List ℕ)) (failed : Bool) (status : ℕ) → Type 0
TellsMore old new failed status =
    (more : List ℕ) × TellsLine (λ fault status. status ≡ status_of fault) (λ fault. fault_line fault ++ more) old new failed status
