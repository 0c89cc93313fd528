-- What C is told of a program.
use Rattle.std.specs.Prelude.{◌≡◌, ℕ, List, Some}
use Rattle.std.specs.declared.option.Option.{Option}
use Rattle.program_object.specs.Faults.{IsProgram, program_fault}
use Rattle.program_object.specs.Source.{source}
use Rattle.program_object.specs.Words.{AreSpelled}
use Rattle.program_object.specs.declared.instruction.Instruction.{Instruction}
use Rattle.program_object.specs.declared.program.Flaw.{Flaw}
use Rattle.program_object.specs.declared.program.Flaw.TheVariants.{NoSuchRegister, NoSuchPlace, JumpsBack, NoSuchTarget, GoesForward, NoSuchLoop}
use Rattle.program_object.specs.declared.program.ProgramFault.{ProgramFault}
use Rattle.program_object.specs.declared.program.ProgramFault.TheVariants.{BadInstruction, TooLong, TooWide}
use Rattle.universal_c.specs.SmallCalls.{HasOpenedSmall}
use Rattle.universal_c.specs.declared.held.Held.{Held}
use Rattle.universal_c.specs.declared.small_kind.SmallKind.TheVariants.{Program}

abbrev pub flaw_status : Flaw → ℕ
flaw_status NoSuchRegister = 13
flaw_status NoSuchPlace = 14
flaw_status JumpsBack = 15
flaw_status NoSuchTarget = 16
flaw_status GoesForward = 17
flaw_status NoSuchLoop = 18

abbrev pub fault_status : ProgramFault → ℕ
fault_status (BadInstruction number flaw) = flaw_status flaw
fault_status TooLong = 19
fault_status TooWide = 10

-- the number of the instruction that is wrong; what was there before, where it is none
abbrev pub told_number : ProgramFault → (before : ℕ) → ℕ
told_number (BadInstruction number flaw) before = number
told_number TooLong before = before
told_number TooWide before = before

module _ (words start : List ℕ) (invocation reply : ℕ) where
  -- the words are those of a program that is refused with this status and this number
  abbrev pub IsRefused : (status before number : ℕ) → Type 0
  IsRefused status before number = (instructions : List Instruction) × (fault : ProgramFault) × AreSpelled words instructions
      × (program_fault (source instructions start invocation reply) ≡ Some fault) × (status ≡ fault_status fault) × (number ≡ told_number fault before)

  -- they are those of a program, and a handle has its object, for as many processes
  abbrev pub HasOpenedProgram : (new : Option Held) → (n : ℕ) → Type 0
  HasOpenedProgram new n = (instructions : List Instruction) × AreSpelled words instructions
      × IsProgram (source instructions start invocation reply) × HasOpenedSmall new (Program (source instructions start invocation reply)) n
