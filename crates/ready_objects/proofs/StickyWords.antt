-- The sticky register's words, read.
use Rattle.ready_objects.proofs.Vocabulary.{List, None, Option, Read, Some, Stick, StickyInv, [], ap, bytes_eq, cases_Bool, codes, inl, inr, number_of_word, option_map, refl, sticky_inv_of_words, sticky_words, sym, ℕ, ◌∙◌, ◌∷◌, ◌≡◌}
use Rattle.ready_objects.proofs.Numbers.{decimal-number_of_word}
use Rattle.ready_objects.proofs.Words.{named}

-- an invocation with a value is read from its name and the value's word
stick_read : (v : List ℕ) (o : Option ℕ) (i : StickyInv) → number_of_word v ≡ o → option_map Stick o ≡ Some i → sticky_words i ≡ codes "stick" ∷ v ∷ []
stick_read v None i number read = cc
stick_read v (Some n) i number read =
    let same : Stick n ≡ i = cc in
    ap sticky_words (sym same) ∙ ap (λ w. codes "stick" ∷ w ∷ []) (decimal-number_of_word v n number)

-- words are read as the invocation that has them
pub sticky_words-sticky_inv_of_words : (words : List (List ℕ)) (i : StickyInv) → sticky_inv_of_words words ≡ Some i → sticky_words i ≡ words
sticky_words-sticky_inv_of_words [] i read = cc
sticky_words-sticky_inv_of_words (name ∷ []) i read =
    elim (cases_Bool (bytes_eq name (codes "read"))) [
      | inl is_read ↦
          let r : Some Read ≡ Some i = rw is_read at read in
          let same : Read ≡ i = cc in
          ap sticky_words (sym same) ∙ ap (λ w. w ∷ []) (named name (codes "read") is_read)
      | inr other ↦ let r = rw other at read in cc
    ]
sticky_words-sticky_inv_of_words (name ∷ v ∷ []) i read =
    elim (cases_Bool (bytes_eq name (codes "stick"))) [
      | inl stick ↦
          let r = rw stick at read in
          stick_read v (number_of_word v) i refl r ∙ ap (λ w. w ∷ v ∷ []) (named name (codes "stick") stick)
      | inr other ↦ let r = rw other at read in cc
    ]
sticky_words-sticky_inv_of_words (a ∷ b ∷ c ∷ words) i read = cc
