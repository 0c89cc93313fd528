-- A program as it is written.
use Rattle.std.specs.Prelude.{ℕ, List}
use Rattle.program_object.specs.declared.instruction.Instruction.{Instruction}

pub record Source : Type 0 where
  pub instructions : List Instruction
  -- the words of the start state
  pub start : List ℕ
  -- how many words an invocation and a reply have
  pub invocation : ℕ
  pub reply : ℕ

abbrev pub source : (instructions : List Instruction) → (start : List ℕ) → (invocation reply : ℕ) → Source
source instructions start invocation reply =
    record { instructions = instructions; start = start; invocation = invocation; reply = reply }
