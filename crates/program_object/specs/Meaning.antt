-- What a program means as a small object.
use Rattle.std.specs.Prelude.{◌≡◌, ℕ, ◌-◌, ◌^◌, List, [], ◌∷◌, refl}
use Rattle.std.proofs.Common.{◌∙◌}
use Rattle.std.proofs.lemmas.List.{length-replicate}
use Rattle.uni_small.specs.Image.{IsSteady, Meaning}
use Rattle.program_object.specs.Source.{Source}
use Rattle.program_object.specs.Machine.{Machine, after, begun}
use Rattle.program_object.specs.Faults.{IsProgram, most_steps}
use Rattle.program_object.specs.Wide.{after_wide}
use Rattle.program_object.specs.declared.instruction.Area.TheVariants.{State, Invocation}
use Rattle.program_object.specs.declared.instruction.Place.TheVariants.{Fixed}
use Rattle.program_object.specs.declared.instruction.Checked.TheVariants.{Add}
use Rattle.program_object.specs.declared.instruction.Modular.TheVariants.{Sum}
use Rattle.program_object.specs.declared.instruction.Test.TheVariants.{Less}
use Rattle.program_object.specs.declared.instruction.Instruction.TheVariants.{Set, Load, Store, Answer, Compute, Wrap, Jump, Again}

-- the machine at the end of a call
abbrev pub called : Source → (state inv : List ℕ) → Machine
called p state inv = after p.instructions inv (begun state p.reply) (most_steps p.instructions)

-- a call leaves the state and the reply that the machine has at its end
abbrev pub program_meaning : Source → Meaning
program_meaning p = record {
  object = record {
    initial = p.start;
    next = λ state inv. (called p state inv).state;
    answer = λ state inv. (called p state inv).reply;
  };
  invocation = p.invocation;
  reply = p.reply;
}

pub program_steady : (p : Source) → IsSteady (program_meaning p).object p.reply
program_steady p state inv long =
    let wide = after_wide p.instructions inv (begun state p.reply) (most_steps p.instructions) in
    (wide.state ∙ long, wide.reply ∙ length-replicate p.reply 0)

-- an account of at most 100: a call adds its number where the sum is no more than that, and is answered the sum, or 0
abbrev pub account : Source
account = record {
  instructions =
      Load State (Fixed 0) 0 7
      ∷ Load Invocation (Fixed 0) 1 7
      ∷ Compute Add 0 0 1 7
      ∷ Set 2 100
      ∷ Jump Less 2 0 7
      ∷ Store (Fixed 0) 0 7
      ∷ Answer (Fixed 0) 0 7
      ∷ [];
  start = 40 ∷ [];
  invocation = 1;
  reply = 1;
}

account_is_program : IsProgram account
account_is_program = refl

account_steps : most_steps account.instructions ≡ 7
account_steps = refl

account_added : (program_meaning account).object.next (40 ∷ []) (50 ∷ []) ≡ 90 ∷ []
account_added = refl

account_told : (program_meaning account).object.answer (40 ∷ []) (50 ∷ []) ≡ 90 ∷ []
account_told = refl

account_full : (program_meaning account).object.next (40 ∷ []) (70 ∷ []) ≡ 40 ∷ []
account_full = refl

account_refused : (program_meaning account).object.answer (40 ∷ []) (70 ∷ []) ≡ 0 ∷ []
account_refused = refl

-- the sum is no number of 64 bits
account_past : (program_meaning account).object.next (40 ∷ []) ((2 ^ 64 - 1) ∷ []) ≡ 40 ∷ []
account_past = refl

-- a loop: 3 is added five times, once and then four times more
abbrev pub fifteen : Source
fifteen = record {
  instructions = Set 1 3 ∷ Wrap Sum 0 0 1 ∷ Again 1 4 0 ∷ Answer (Fixed 0) 0 4 ∷ [];
  start = [];
  invocation = 0;
  reply = 1;
}

fifteen_is_program : IsProgram fifteen
fifteen_is_program = refl

fifteen_steps : most_steps fifteen.instructions ≡ 20
fifteen_steps = refl

fifteen_told : (program_meaning fifteen).object.answer [] [] ≡ 15 ∷ []
fifteen_told = refl
