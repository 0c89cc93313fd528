use Rattle.ready_objects.proofs.Vocabulary.{Stick, [], and_from, ap, arith, codes, decimal, option_map, refl, sym, ◌∷◌, ◌≤◌}
use Rattle.ready_objects.proofs.Numbers.{number_of_word-decimal, lacks_space-decimal}
use Rattle.ready_objects.proofs.StickyWords.{sticky_words-sticky_inv_of_words}
use Rattle.ready_objects.proofs.Words.{words_of_text-text_of_words}
use Rattle.ready_objects.proofs.sticky.StickyObjectSpoken.reads_back.Goals as goal

pub returns-in-Stick-clause-words : goal.returns-in-Stick-clause-words
returns-in-Stick-clause-words c =
    let bound : c.in-Stick.value ≤ 999999999999 = omega arith in
    rw c.in-Stick.is (words_of_text-text_of_words (codes "stick") (decimal c.in-Stick.value ∷ []) (and_from _ _ (lacks_space-decimal c.in-Stick.value bound) refl))

pub returns-in-Stick-clause-inv : goal.returns-in-Stick-clause-inv
returns-in-Stick-clause-inv c =
    let bound : c.in-Stick.value ≤ 999999999999 = omega arith in
    rw c.in-Stick.is (ap (option_map Stick) (number_of_word-decimal c.in-Stick.value bound))

pub returns-in-Stick-clause-only : goal.returns-in-Stick-clause-only
returns-in-Stick-clause-only c = λ words read. sym (sticky_words-sticky_inv_of_words words c.args.inv.now read)

pub returns-in_default-clause-only : goal.returns-in_default-clause-only
returns-in_default-clause-only c = λ words read. sym (sticky_words-sticky_inv_of_words words c.args.inv.now read)
