-- The queue's words, read.
use Rattle.ready_objects.proofs.Vocabulary.{Deq, Enq, List, None, Option, Some, [], ap, bytes_eq, cases_Bool, codes, inl, inr, number_of_word, option_map, refl, sym, ℕ, ◌∙◌, ◌∷◌, ◌≡◌}
use Rattle.ready_objects.specs.declared.queue.QueueInv.{QueueInv}
use Rattle.ready_objects.specs.Queue.{queue_words, queue_inv_of_words}
use Rattle.ready_objects.proofs.Numbers.{decimal-number_of_word}
use Rattle.ready_objects.proofs.Words.{named}

-- an invocation with a value is read from its name and the value's word
enq_read : (v : List ℕ) (o : Option ℕ) (i : QueueInv) → number_of_word v ≡ o → option_map Enq o ≡ Some i → queue_words i ≡ codes "enq" ∷ v ∷ []
enq_read v None i number read = cc
enq_read v (Some n) i number read =
    let same : Enq n ≡ i = cc in
    ap queue_words (sym same) ∙ ap (λ w. codes "enq" ∷ w ∷ []) (decimal-number_of_word v n number)

-- words are read as the invocation that has them
pub queue_words-queue_inv_of_words : (words : List (List ℕ)) (i : QueueInv) → queue_inv_of_words words ≡ Some i → queue_words i ≡ words
queue_words-queue_inv_of_words [] i read = cc
queue_words-queue_inv_of_words (name ∷ []) i read =
    elim (cases_Bool (bytes_eq name (codes "deq"))) [
      | inl deq ↦
          let r : Some Deq ≡ Some i = rw deq at read in
          let same : Deq ≡ i = cc in
          ap queue_words (sym same) ∙ ap (λ w. w ∷ []) (named name (codes "deq") deq)
      | inr other ↦ let r = rw other at read in cc
    ]
queue_words-queue_inv_of_words (name ∷ v ∷ []) i read =
    elim (cases_Bool (bytes_eq name (codes "enq"))) [
      | inl enq ↦
          let r = rw enq at read in
          enq_read v (number_of_word v) i refl r ∙ ap (λ w. w ∷ v ∷ []) (named name (codes "enq") enq)
      | inr other ↦ let r = rw other at read in cc
    ]
queue_words-queue_inv_of_words (a ∷ b ∷ c ∷ words) i read = cc
