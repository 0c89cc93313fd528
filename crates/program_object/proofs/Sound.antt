-- What holds of each instruction of a program: where it goes on.
use Rattle.program_object.proofs.Vocabulary.{Bool, List, None, Option, Some, [], ap, arith, false, if◌then◌else◌, length, nat_le, nat_lt, option_map, option_or, refl, slice_get, suc, sym, tests, true, zero, ℕ, ◌+◌, ◌<◌, ◌∙◌, ◌∷◌, ◌≡◌}
use Rattle.program_object.proofs.Vocabulary.{BadInstruction, Flaw, Instruction, IsProgram, ProgramFault, Source, Widths, first_flaw, flaw_of, greatest_register, has_place, jump_flaw, length_fault, loop_flaw, target_flaw, width_fault, widths_of}
use Rattle.program_object.specs.declared.program.Flaw.TheVariants.{GoesForward, JumpsBack, NoSuchPlace, NoSuchRegister, NoSuchTarget, NoSuchLoop}

none_of_two : (a b : Option ProgramFault) → option_or a b ≡ None → (a ≡ None) × (b ≡ None)
none_of_two None b h = (refl, h)
none_of_two (Some x) b h = cc

none_of_map : (place : ℕ) (a : Option Flaw) → option_map (BadInstruction place) a ≡ None → a ≡ None
none_of_map place None h = refl
none_of_map place (Some x) h = cc

pub sound_from : (w : Widths) (count place : ℕ) (code : List Instruction) (k j : ℕ) (i : Instruction)
    → first_flaw w count place code ≡ None → slice_get code k ≡ Some i → j ≡ place + k → flaw_of w count j i ≡ None
sound_from w count place [] k j i none h e = cc
sound_from w count place (x ∷ xs) zero j i none h e =
    let one = (none_of_two (option_map (BadInstruction place) (flaw_of w count place x)) (first_flaw w count (place + 1) xs) none).0 in
    let same : x ≡ i = cc in
    let here : place ≡ j = omega arith in
    ap (λ z. flaw_of w count j z) (sym same) ∙ ap (λ p. flaw_of w count p x) (sym here) ∙ none_of_map place (flaw_of w count place x) one
sound_from w count place (x ∷ xs) (suc k) j i none h e =
    let rest = (none_of_two (option_map (BadInstruction place) (flaw_of w count place x)) (first_flaw w count (place + 1) xs) none).1 in
    sound_from w count (place + 1) xs k j i rest h (omega arith)

jumps_sound : (a b : Bool) (jumps : Option Flaw) → (if a then Some NoSuchRegister else if b then jumps else Some NoSuchPlace) ≡ None → jumps ≡ None
jumps_sound true b jumps h = cc
jumps_sound false true jumps h = h
jumps_sound false false jumps h = cc

pub sound_at : (p : Source) → IsProgram p → (k : ℕ) (i : Instruction) → slice_get p.instructions k ≡ Some i → jump_flaw (length p.instructions) k i ≡ None
sound_at p good k i h =
    let w = widths_of p in
    let count = length p.instructions in
    let none = (none_of_two (first_flaw w count 0 p.instructions) (option_or (length_fault p.instructions) (width_fault w)) good).0 in
    jumps_sound (nat_le 16 (greatest_register i)) (has_place w i) (jump_flaw count k i)
    (sound_from w count 0 p.instructions k k i none h (omega arith))

target_by : (count place to : ℕ) (a b : Bool) → nat_le to place ≡ a → nat_lt count to ≡ b
    → (if a then Some JumpsBack else if b then Some NoSuchTarget else None) ≡ None → place < to
target_by count place to true b p q h = cc
target_by count place to false b p q h = grind (arith, tests)

-- the target lies after its instruction
pub later : (count place to : ℕ) → target_flaw count place to ≡ None → place < to
later count place to h = target_by count place to (nat_le to place) (nat_lt count to) refl refl h

loop_by : (place back turn : ℕ) (a b : Bool) → nat_lt place back ≡ a → nat_le 16 turn ≡ b
    → (if a then Some GoesForward else if b then Some NoSuchLoop else None) ≡ None → turn < 16
loop_by place back turn true b p q h = cc
loop_by place back turn false true p q h = cc
loop_by place back turn false false p q h = grind (arith, tests)

-- the loop has a number below 16
pub counted : (place back turn : ℕ) → loop_flaw place back turn ≡ None → turn < 16
counted place back turn h = loop_by place back turn (nat_lt place back) (nat_le 16 turn) refl refl h

pub program_short : (p : Source) → IsProgram p → length_fault p.instructions ≡ None
program_short p good =
    let w = widths_of p in
    (none_of_two (length_fault p.instructions) (width_fault w)
    (none_of_two (first_flaw w (length p.instructions) 0 p.instructions) (option_or (length_fault p.instructions) (width_fault w)) good).1).0
