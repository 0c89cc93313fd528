use Rattle.ready_objects.proofs.Vocabulary.{Enq, [], and_from, ap, arith, codes, decimal, option_map, refl, sym, ◌∷◌, ◌≤◌}
use Rattle.ready_objects.proofs.Numbers.{number_of_word-decimal, lacks_space-decimal}
use Rattle.ready_objects.proofs.QueueWords.{queue_words-queue_inv_of_words}
use Rattle.ready_objects.proofs.Words.{words_of_text-text_of_words}
use Rattle.ready_objects.proofs.queue.QueueObjectSpoken.reads_back.Goals as goal

pub returns-in-Enq-clause-words : goal.returns-in-Enq-clause-words
returns-in-Enq-clause-words c =
    let bound : c.in-Enq.value ≤ 999999999999 = omega arith in
    rw c.in-Enq.is (words_of_text-text_of_words (codes "enq") (decimal c.in-Enq.value ∷ []) (and_from _ _ (lacks_space-decimal c.in-Enq.value bound) refl))

pub returns-in-Enq-clause-inv : goal.returns-in-Enq-clause-inv
returns-in-Enq-clause-inv c =
    let bound : c.in-Enq.value ≤ 999999999999 = omega arith in
    rw c.in-Enq.is (ap (option_map Enq) (number_of_word-decimal c.in-Enq.value bound))

pub returns-in-Enq-clause-only : goal.returns-in-Enq-clause-only
returns-in-Enq-clause-only c = λ words read. sym (queue_words-queue_inv_of_words words c.args.inv.now read)

pub returns-in_default-clause-only : goal.returns-in_default-clause-only
returns-in_default-clause-only c = λ words read. sym (queue_words-queue_inv_of_words words c.args.inv.now read)
