-- The statuses with which a program over scripts ends, and what it tells.
use Rattle.std.specs.Prelude.{◌≡◌, ◌⊎◌, ◌∷◌, ◌++◌, ◌==◌, [], if◌then◌else◌, ℕ, List, Option, Bool, false}
use Rattle.std.specs.Prelude.{codes}
use Rattle.std.specs.Io.KnownBytes.{Appends}
use Rattle.uni_script.specs.Ends.{AppendsPrefix}
use Rattle.uni_script.specs.Fault.{fault_line}
use Rattle.uni_script.specs.declared.fault.BenchFault.{BenchFault}
use Rattle.uni_script.specs.declared.fault.BenchFault.TheVariants.{NoHeader, BadHeader, TooLong, BadByte, BadLine, TooMany, Read, Write}
use Rattle.uni_script.specs.declared.fault.BenchFault.TheVariants.{Memory, Audit}

-- the status that a fault ends with
abbrev pub status_of : BenchFault → ℕ
status_of (NoHeader l) = 2
status_of (BadHeader l) = 2
status_of (TooLong l) = 2
status_of (BadByte l) = 2
status_of (BadLine l) = 2
status_of TooMany = 2
status_of Read = 3
status_of Write = 3
status_of Memory = 4
status_of (Audit verdict) = 5

-- the status of a fault, or that of refused memory for the text of a script's fault or an audit's
abbrev pub IsStatusOf : BenchFault → (status : ℕ) → Type 0
IsStatusOf fault status = (status ≡ status_of fault) ⊎ (((status_of fault ≡ 2) ⊎ (status_of fault ≡ 5)) × (status ≡ 4))

-- known bytes grew by the line of a fault that ends with this status: by all of it, where the end hasn't failed, else by a prefix
pub record TellsLine {A : Type 0} (EndsWith : A → ℕ → Type 0) (line_of : A → List ℕ) (old new : Option (List ℕ)) (failed : Bool)
    (status : ℕ) : Type 0 where
  pub fault : A
  pub status_is : EndsWith fault status
  pub prefix : AppendsPrefix old new (line_of fault)
  pub whole : failed ≡ false → Appends old new (line_of fault)

abbrev pub TellsFault : (old new : Option (List ℕ)) (failed : Bool) (status : ℕ) → Type 0
TellsFault = TellsLine (λ fault status. status ≡ status_of fault) fault_line

-- the line that tells why the words of a command line can't be had, by the status that it ends with
abbrev pub line_of_words : (status : ℕ) → List ℕ
line_of_words status = (if status == 4 then codes "out of memory" else codes "an argument is not UTF-8") ++ 10 ∷ []
