-- What can be wrong with a program, and how many steps a call of it takes at most.
use Rattle.std.specs.Prelude.{◌≡◌, ℕ, ◌+◌, ◌*◌, ◌^◌, ◌==◌, nat_lt, nat_le, max, Bool, true, if◌then◌else◌}
use Rattle.std.specs.Prelude.{List, [], ◌∷◌, length, Option, Some, None, option_map, refl}
use Rattle.std.specs.Option.{option_or}
use Rattle.program_object.specs.Source.{Source}
use Rattle.program_object.specs.declared.instruction.Area.{Area}
use Rattle.program_object.specs.declared.instruction.Area.TheVariants.{State, Invocation, Reply}
use Rattle.program_object.specs.declared.instruction.Place.{Place}
use Rattle.program_object.specs.declared.instruction.Place.TheVariants.{Fixed, By}
use Rattle.program_object.specs.declared.instruction.Test.TheVariants.{Always}
use Rattle.program_object.specs.declared.instruction.Instruction.{Instruction}
use Rattle.program_object.specs.declared.instruction.Instruction.TheVariants.{Set, Load, Store, Answer, Compute, Wrap, Jump, Again}
use Rattle.program_object.specs.declared.program.Flaw.{Flaw}
use Rattle.program_object.specs.declared.program.Flaw.TheVariants.{NoSuchRegister, NoSuchPlace, JumpsBack, NoSuchTarget, GoesForward, NoSuchLoop}
use Rattle.program_object.specs.declared.program.ProgramFault.{ProgramFault}
use Rattle.program_object.specs.declared.program.ProgramFault.TheVariants.{BadInstruction, TooLong, TooWide}
use Rattle.program_object.specs.declared.program.Widths.{Widths}

-- how many words an area has
abbrev pub area_words : Widths → Area → ℕ
area_words w State = w.state
area_words w Invocation = w.invocation
area_words w Reply = w.reply

-- the greatest number of a register that an instruction names
abbrev pub place_register : Place → ℕ
place_register (Fixed place) = 0
place_register (By register) = register

abbrev pub greatest_register : Instruction → ℕ
greatest_register (Set to value) = to
greatest_register (Load from at to otherwise) = max (place_register at) to
greatest_register (Store at value otherwise) = max (place_register at) value
greatest_register (Answer at value otherwise) = max (place_register at) value
greatest_register (Compute by to left right otherwise) = max to (max left right)
greatest_register (Wrap by to left right) = max to (max left right)
greatest_register (Jump when left right to) = max left right
greatest_register (Again back most turn) = 0

-- a fixed place lies in its area
abbrev pub is_inside : (words : ℕ) → Place → Bool
is_inside words (Fixed place) = nat_lt place words
is_inside words (By register) = true

abbrev pub has_place : Widths → Instruction → Bool
has_place w (Load from at to otherwise) = is_inside (area_words w from) at
has_place w (Store at value otherwise) = is_inside w.state at
has_place w (Answer at value otherwise) = is_inside w.reply at
has_place w (Set to value) = true
has_place w (Compute by to left right otherwise) = true
has_place w (Wrap by to left right) = true
has_place w (Jump when left right to) = true
has_place w (Again back most turn) = true

-- an instruction at a place goes on at a later one, and at the end at most
abbrev pub target_flaw : (count place : ℕ) → (to : ℕ) → Option Flaw
target_flaw count place to = if nat_le to place then Some JumpsBack else if nat_lt count to then Some NoSuchTarget else None

abbrev pub loop_flaw : (place back turn : ℕ) → Option Flaw
loop_flaw place back turn = if nat_lt place back then Some GoesForward else if nat_le 16 turn then Some NoSuchLoop else None

abbrev pub jump_flaw : (count place : ℕ) → Instruction → Option Flaw
jump_flaw count place (Set to value) = None
jump_flaw count place (Load from at to otherwise) = target_flaw count place otherwise
jump_flaw count place (Store at value otherwise) = target_flaw count place otherwise
jump_flaw count place (Answer at value otherwise) = target_flaw count place otherwise
jump_flaw count place (Compute by to left right otherwise) = target_flaw count place otherwise
jump_flaw count place (Wrap by to left right) = None
jump_flaw count place (Jump when left right to) = target_flaw count place to
jump_flaw count place (Again back most turn) = loop_flaw place back turn

-- what is wrong with the instruction at a place of so many, the first of these
abbrev pub flaw_of : Widths → (count place : ℕ) → Instruction → Option Flaw
flaw_of w count place i =
    if nat_le 16 (greatest_register i) then Some NoSuchRegister
    else if has_place w i then jump_flaw count place i
    else Some NoSuchPlace

-- the first instruction that is wrong, from a place on
abbrev pub first_flaw : Widths → (count place : ℕ) → List Instruction → Option ProgramFault
first_flaw w count place [] = None
first_flaw w count place (i ∷ is) =
    option_or (option_map (BadInstruction place) (flaw_of w count place i)) (first_flaw w count (place + 1) is)

-- how often an instruction goes back at most
abbrev pub most_of : Instruction → ℕ
most_of (Set to value) = 0
most_of (Load from at to otherwise) = 0
most_of (Store at value otherwise) = 0
most_of (Answer at value otherwise) = 0
most_of (Compute by to left right otherwise) = 0
most_of (Wrap by to left right) = 0
most_of (Jump when left right to) = 0
most_of (Again back most turn) = most

abbrev pub most_in : List Instruction → ℕ
most_in [] = 0
most_in (i ∷ is) = most_of i + most_in is

-- how many steps a call takes at most
abbrev pub most_steps : List Instruction → ℕ
most_steps code = length code * (1 + most_in code)

-- more than 4,096 instructions, or more than 2^32 steps
abbrev pub length_fault : List Instruction → Option ProgramFault
length_fault code = if nat_lt 4096 (length code) then Some TooLong else if nat_lt (2 ^ 32) (most_steps code) then Some TooLong else None

-- more than 65,536 words, or a reply of none
abbrev pub width_fault : Widths → Option ProgramFault
width_fault w =
    if nat_lt 65536 w.state then Some TooWide
    else if nat_lt 65536 w.invocation then Some TooWide
    else if nat_lt 65536 w.reply then Some TooWide
    else if w.reply == 0 then Some TooWide
    else None

abbrev pub widths_of : Source → Widths
widths_of p = record { state = length p.start; invocation = p.invocation; reply = p.reply }

-- what is wrong with a program, the first of these
abbrev pub program_fault : Source → Option ProgramFault
program_fault p =
    option_or (first_flaw (widths_of p) (length p.instructions) 0 p.instructions)
    (option_or (length_fault p.instructions) (width_fault (widths_of p)))

abbrev pub IsProgram : Source → Type 0
IsProgram p = program_fault p ≡ None

-- a program of one instruction, over a state, an invocation and a reply of one word each
abbrev of_one : Instruction → Source
of_one i = record { instructions = i ∷ []; start = 0 ∷ []; invocation = 1; reply = 1 }

sample_right : program_fault (of_one (Load State (Fixed 0) 15 1)) ≡ None
sample_right = refl

sample_register : program_fault (of_one (Load State (Fixed 1) 16 0)) ≡ Some (BadInstruction 0 NoSuchRegister)
sample_register = refl

sample_place : program_fault (of_one (Load State (Fixed 1) 15 0)) ≡ Some (BadInstruction 0 NoSuchPlace)
sample_place = refl

sample_back : program_fault (of_one (Load State (Fixed 0) 15 0)) ≡ Some (BadInstruction 0 JumpsBack)
sample_back = refl

sample_target : program_fault (of_one (Jump Always 0 0 2)) ≡ Some (BadInstruction 0 NoSuchTarget)
sample_target = refl

sample_forward : program_fault (of_one (Again 1 9 16)) ≡ Some (BadInstruction 0 GoesForward)
sample_forward = refl

sample_turn : program_fault (of_one (Again 0 9 16)) ≡ Some (BadInstruction 0 NoSuchLoop)
sample_turn = refl

sample_long : program_fault (of_one (Again 0 (2 ^ 32) 15)) ≡ Some TooLong
sample_long = refl

sample_wide : program_fault (record { instructions = []; start = []; invocation = 0; reply = 0 }) ≡ Some TooWide
sample_wide = refl

-- of two that are wrong the first is told
sample_first : program_fault (record { instructions = Set 0 5 ∷ Set 16 5 ∷ Set 17 5 ∷ []; start = []; invocation = 0; reply = 0 }) ≡ Some (BadInstruction 1 NoSuchRegister)
sample_first = refl
