-- The stack's words, read.
use Rattle.std.proofs.Common.{◌≡◌, ℕ, ◌^◌, List, [], ◌∷◌, Option, Some, None, refl, inl, inr, sym, ap, ◌∙◌}
use Rattle.std.specs.Prelude.{codes, option_map}
use Rattle.std.specs.Str.{bytes_eq}
use Rattle.std.proofs.lemmas.Bool.{cases_Bool}
use Rattle.ready_objects.specs.Number.{number_below}
use Rattle.ready_objects.proofs.Numbers.{decimal-number_below}
use Rattle.ready_objects.proofs.Words.{named}
use Rattle.stack.specs.declared.StackInv.{StackInv}
use Rattle.stack.specs.declared.StackInv.TheVariants.{Push, Pop}
use Rattle.stack.specs.Stack.{stack_words, stack_inv_of_words}

-- an invocation with a value is read from its name and the value's word
push_read : (v : List ℕ) (o : Option ℕ) (i : StackInv) → number_below (2 ^ 32) v ≡ o → option_map Push o ≡ Some i → stack_words i ≡ codes "push" ∷ v ∷ []
push_read v None i number read = cc
push_read v (Some n) i number read =
    let same : Push n ≡ i = cc in
    ap stack_words (sym same) ∙ ap (λ w. codes "push" ∷ w ∷ []) (decimal-number_below (2 ^ 32) v n number)

-- words are read as the invocation that has them
pub stack_words-stack_inv_of_words : (words : List (List ℕ)) (i : StackInv) → stack_inv_of_words words ≡ Some i → stack_words i ≡ words
stack_words-stack_inv_of_words [] i read = cc
stack_words-stack_inv_of_words (name ∷ []) i read =
    elim (cases_Bool (bytes_eq name (codes "pop"))) [
      | inl pop ↦
          let r : Some Pop ≡ Some i = rw pop at read in
          let same : Pop ≡ i = cc in
          ap stack_words (sym same) ∙ ap (λ w. w ∷ []) (named name (codes "pop") pop)
      | inr other ↦ let r = rw other at read in cc
    ]
stack_words-stack_inv_of_words (name ∷ v ∷ []) i read =
    elim (cases_Bool (bytes_eq name (codes "push"))) [
      | inl push ↦
          let r = rw push at read in
          push_read v (number_below (2 ^ 32) v) i refl r ∙ ap (λ w. w ∷ v ∷ []) (named name (codes "push") push)
      | inr other ↦ let r = rw other at read in cc
    ]
stack_words-stack_inv_of_words (a ∷ b ∷ c ∷ words) i read = cc
