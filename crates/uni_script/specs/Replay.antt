-- What the replay of a script does.
use Rattle.std.specs.Prelude.{◌≡◌, ℕ, List, length, Option, None, Some, IfSome}
use Rattle.std.specs.Io.KnownBytes.{Appends, Consumes}
use Rattle.uni_script.specs.declared.fault.BenchFault.{BenchFault}
use Rattle.uni_script.specs.declared.fault.BenchFault.TheVariants.{NoHeader, BadHeader, TooLong, BadByte, BadLine, TooMany, Read, Write}
use Rattle.uni_script.specs.declared.fault.BenchFault.TheVariants.{Memory, Audit}
use Rattle.uni_script.specs.Ends.{AppendsPrefix}
use Rattle.uni_script.specs.Grammar.{cut, lines_of}
use Rattle.uni_script.specs.declared.summary.Summary.{Summary}
use Rattle.uni_script.specs.Promises.{IsPromisedSession}
use Rattle.uni_script.specs.declared.options.Options.{Options}
use Rattle.uni_script.specs.Outcome.{Kind, outcome_of_lines, outcome_of_script}
use Rattle.uni_script.specs.Scripts.{scripts}
use Rattle.uni_script.specs.Summary.{summary_of_session}

-- where a reader's bytes are known, they are these
abbrev pub IsInput : Option (List ℕ) → List ℕ → Type 0
IsInput left script = IfSome left (λ bytes. bytes ≡ script)

-- a fault that a script has
abbrev pub IsFaultOfScript : BenchFault → Type 0
IsFaultOfScript (NoHeader l) = Unit {0}
IsFaultOfScript (BadHeader l) = Unit {0}
IsFaultOfScript (TooLong l) = Unit {0}
IsFaultOfScript (BadByte l) = Unit {0}
IsFaultOfScript (BadLine l) = Unit {0}
IsFaultOfScript TooMany = Unit {0}
IsFaultOfScript Read = ⊥
IsFaultOfScript Write = ⊥
IsFaultOfScript Memory = ⊥
IsFaultOfScript (Audit verdict) = ⊥

module _ {B : Type 0} (kind : Kind B) where
  -- the text that a script's answers make, up to its first fault
  abbrev pub text_of_script : List ℕ → List ℕ
  text_of_script script = (outcome_of_script kind script).text

  -- the first fault of a script, if it has one
  abbrev pub fault_of_script : List ℕ → Option BenchFault
  fault_of_script script = (outcome_of_script kind script).fault

  -- the reader had a script with this first fault, or none, and the text of its answers was written
  abbrev pub IsReplay : (left old new : Option (List ℕ)) → Option BenchFault → Type 0
  IsReplay left old new fault =
      (script : List ℕ) × IsInput left script × (fault_of_script script ≡ fault) × Appends old new (text_of_script script)

  -- the reader had a script of some lines that leaves a session, of which this holds
  abbrev pub Leaves : (left : Option (List ℕ)) → (Holds : (lines : ℕ) → B → Type 0) → Type 0
  Leaves left Holds =
      (script : List ℕ) × IsInput left script
      × ((b : B) × ((outcome_of_script kind script).session ≡ Some b) × Holds (length (lines_of script)) b)

  -- a prefix of the text of the script's answers was written
  abbrev pub IsPartOfReplay : (left old new : Option (List ℕ)) → Type 0
  IsPartOfReplay left old new = (script : List ℕ) × IsInput left script × AppendsPrefix old new (text_of_script script)

  -- what the whole lines of some bytes come to
  abbrev pub text_of_whole_lines : List ℕ → List ℕ
  text_of_whole_lines bytes = (outcome_of_lines kind 1 None (cut bytes).whole).text

  abbrev pub fault_of_whole_lines : List ℕ → Option BenchFault
  fault_of_whole_lines bytes = (outcome_of_lines kind 1 None (cut bytes).whole).fault

  -- the reader gave some bytes whose whole lines have no fault, and the text of their answers was written
  abbrev pub HasAnswered : (left left_after old new : Option (List ℕ)) → Type 0
  HasAnswered left left_after old new =
      (bytes : List ℕ) × Consumes left left_after bytes × (fault_of_whole_lines bytes ≡ None)
      × Appends old new (text_of_whole_lines bytes)

  -- the reader had a script with a fault, and the answers to all lines before it were written
  abbrev pub IsBadReplay : (left old new : Option (List ℕ)) → Type 0
  IsBadReplay left old new = (fault : BenchFault) × IsFaultOfScript fault × IsReplay left old new (Some fault)

  -- the reader had a script with this first fault
  abbrev pub HasFault : (left : Option (List ℕ)) → BenchFault → Type 0
  HasFault left e = (script : List ℕ) × IsInput left script × (fault_of_script script ≡ Some e)

-- the reader had a script over the named objects with this summary
abbrev pub IsSummary : (options : Options) (left : Option (List ℕ)) → Summary → Type 0
IsSummary options left summary = Leaves (scripts options) left (λ lines b. summary ≡ summary_of_session lines b)

-- the reader had one that opens a session, and what is promised of its events holds
abbrev pub IsPromisedScript : (options : Options) (left : Option (List ℕ)) → Type 0
IsPromisedScript options left = Leaves (scripts options) left (λ lines b. IsPromisedSession b)
