-- What instructions mean: the machine that goes through them.
use Rattle.std.specs.Prelude.{ℕ, zero, suc, ◌+◌, ◌-◌, ◌*◌, ◌/◌, ◌%◌, ◌^◌, ◌==◌, ◌≤◌, nat_lt, nat_le, Bool, true, not, if◌then◌else◌}
use Rattle.std.specs.Prelude.{List, length, replicate, slice_get, slice_index, slice_set, Option, Some, None}
use Rattle.program_object.specs.declared.instruction.Area.{Area}
use Rattle.program_object.specs.declared.instruction.Area.TheVariants.{State, Invocation, Reply}
use Rattle.program_object.specs.declared.instruction.Place.{Place}
use Rattle.program_object.specs.declared.instruction.Place.TheVariants.{Fixed, By}
use Rattle.program_object.specs.declared.instruction.Checked.{Checked}
use Rattle.program_object.specs.declared.instruction.Checked.TheVariants.{Add, Subtract, Multiply, Divide, Remainder}
use Rattle.program_object.specs.declared.instruction.Modular.{Modular}
use Rattle.program_object.specs.declared.instruction.Modular.TheVariants.{Sum, Difference, Product}
use Rattle.program_object.specs.declared.instruction.Test.{Test}
use Rattle.program_object.specs.declared.instruction.Test.TheVariants.{Always, Equal, NotEqual, Less, AtMost}
use Rattle.program_object.specs.declared.instruction.Instruction.{Instruction}
use Rattle.program_object.specs.declared.instruction.Instruction.TheVariants.{Set, Load, Store, Answer, Compute, Wrap, Jump, Again}
use Rattle.program_object.specs.declared.step.Frame.{Frame}

-- where a call is
pub record Machine : Type 0 where
  -- the place of the next instruction
  pub at : ℕ
  pub registers : List ℕ
  -- how often the loops of each number have gone back
  pub gone : List ℕ
  pub state : List ℕ
  pub reply : List ℕ

-- the result, where it is a number of 64 bits
abbrev pub if_fits : ℕ → Option ℕ
if_fits x = if nat_lt x (2 ^ 64) then Some x else None

abbrev pub computed : Checked → (a b : ℕ) → Option ℕ
computed Add a b = if_fits (a + b)
computed Subtract a b = if nat_le b a then Some (a - b) else None
computed Multiply a b = if_fits (a * b)
computed Divide a b = if b == 0 then None else Some (a / b)
computed Remainder a b = if b == 0 then None else Some (a % b)

abbrev pub wrapped : Modular → (a b : ℕ) → ℕ
wrapped Sum a b = (a + b) % 2 ^ 64
wrapped Difference a b = (a + (2 ^ 64 - b)) % 2 ^ 64
wrapped Product a b = (a * b) % 2 ^ 64

abbrev pub holds : Test → (a b : ℕ) → Bool
holds Always a b = true
holds Equal a b = a == b
holds NotEqual a b = not (a == b)
holds Less a b = nat_lt a b
holds AtMost a b = nat_le a b

abbrev pub place_in : (registers : List ℕ) → Place → ℕ
place_in registers (Fixed place) = place
place_in registers (By register) = slice_index registers register

-- the words of an area
abbrev pub area : (state inv reply : List ℕ) → Area → List ℕ
area state inv reply State = state
area state inv reply Invocation = inv
area state inv reply Reply = reply

module _ (m : Machine) where
  -- what a register has
  abbrev pub has : (register : ℕ) → ℕ
  has register = slice_index m.registers register

  -- it goes on at an instruction
  abbrev pub goes_on : (to : ℕ) → Machine
  goes_on to = record { at = to; registers = m.registers; gone = m.gone; state = m.state; reply = m.reply }

  -- a register gets a number; where there is none, it stays
  abbrev pub gets : (to : ℕ) → Option ℕ → (otherwise : ℕ) → Machine
  gets to None otherwise = goes_on otherwise
  gets to (Some x) otherwise =
      record { at = m.at + 1; registers = slice_set m.registers to x; gone = m.gone; state = m.state; reply = m.reply }

  -- a word is stored in the state, and in the reply, where it has one at that place
  abbrev pub stores : (place value otherwise : ℕ) → Machine
  stores place value otherwise =
      if nat_lt place (length m.state)
      then record { at = m.at + 1; registers = m.registers; gone = m.gone; state = slice_set m.state place value; reply = m.reply }
      else goes_on otherwise

  abbrev pub answers : (place value otherwise : ℕ) → Machine
  answers place value otherwise =
      if nat_lt place (length m.reply)
      then record { at = m.at + 1; registers = m.registers; gone = m.gone; state = m.state; reply = slice_set m.reply place value }
      else goes_on otherwise

  -- a loop goes back, where it has gone back fewer than so many times
  abbrev pub loops : (back most turn : ℕ) → Machine
  loops back most turn =
      if nat_lt (slice_index m.gone turn) most
      then record { at = back; registers = m.registers; gone = slice_set m.gone turn (slice_index m.gone turn + 1); state = m.state; reply = m.reply }
      else goes_on (m.at + 1)

  module _ (inv : List ℕ) where
    -- the machine after an instruction
    abbrev pub step : Instruction → Machine
    step (Set to value) = gets to (Some value) 0
    step (Load from at to otherwise) = gets to (slice_get (area m.state inv m.reply from) (place_in m.registers at)) otherwise
    step (Store at value otherwise) = stores (place_in m.registers at) (has value) otherwise
    step (Answer at value otherwise) = answers (place_in m.registers at) (has value) otherwise
    step (Compute by to left right otherwise) = gets to (computed by (has left) (has right)) otherwise
    step (Wrap by to left right) = gets to (Some (wrapped by (has left) (has right))) 0
    step (Jump when left right to) = goes_on (if holds when (has left) (has right) then to else m.at + 1)
    step (Again back most turn) = loops back most turn

    -- the machine after the instruction at its place; it stays as it is where there is none, since the call has ended
    abbrev pub step_by : Option Instruction → Machine
    step_by None = m
    step_by (Some i) = step i

-- the machine after so many steps
abbrev pub after : List Instruction → (inv : List ℕ) → Machine → (steps : ℕ) → Machine
after code inv m zero = m
after code inv m (suc n) = step_by (after code inv m n) inv (slice_get code (after code inv m n).at)

-- a call begins: at instruction 0, and all that is not the state is 0
abbrev pub begun : (state : List ℕ) → (reply : ℕ) → Machine
begun state reply = record { at = 0; registers = replicate 16 0; gone = replicate 16 0; state = state; reply = replicate reply 0 }

-- the call has ended
abbrev pub HasEnded : List Instruction → Machine → Type 0
HasEnded code m = length code ≤ m.at

-- the machine of a frame, with the state and the reply
abbrev pub machine_of : Frame → (state reply : List ℕ) → Machine
machine_of f state reply = record { at = f.at; registers = f.registers; gone = f.gone; state = state; reply = reply }
