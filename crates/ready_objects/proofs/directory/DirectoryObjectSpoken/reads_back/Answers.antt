use Rattle.ready_objects.proofs.Vocabulary.{At, [], and_from, ap, arith, codes, decimal, option_map, refl, sym, true, ◌<◌, ◌∷◌, ◌≤◌}
use Rattle.ready_objects.proofs.DirectoryWords.{put_of-decimal, lacks_space-name, directory_words-directory_inv_of_words}
use Rattle.ready_objects.proofs.Numbers.{lacks_space-decimal, number_below-decimal}
use Rattle.ready_objects.proofs.Words.{lacks_space, words_of_text-text_of_words, lack_two}
use Rattle.ready_objects.proofs.directory.DirectoryObjectSpoken.reads_back.Goals as goal

pub returns-in-Put-clause-words : goal.returns-in-Put-clause-words
returns-in-Put-clause-words c =
    let amount : c.in-Put.value ≤ 999999999999 = omega arith in
    rw c.in-Put.is
    (words_of_text-text_of_words (codes "put") (c.in-Put.name ∷ decimal c.in-Put.value ∷ [])
    (lack_two c.in-Put.name (decimal c.in-Put.value) (lacks_space-name c.in-Put.name c.as_bytes.ensures.name) (lacks_space-decimal c.in-Put.value amount)))

pub returns-in-Put-clause-inv : goal.returns-in-Put-clause-inv
returns-in-Put-clause-inv c =
    let amount : c.in-Put.value ≤ 999999999999 = omega arith in
    rw c.in-Put.is (put_of-decimal c.in-Put.name c.in-Put.value c.as_bytes.ensures.name amount)

pub returns-in-Put-clause-only : goal.returns-in-Put-clause-only
returns-in-Put-clause-only c = λ words read. sym (directory_words-directory_inv_of_words words c.args.inv.now read)

pub returns-in-Get-clause-words : goal.returns-in-Get-clause-words
returns-in-Get-clause-words c =
    rw c.in-Get.is
    (words_of_text-text_of_words (codes "get") (c.in-Get.name ∷ [])
    (and_from (lacks_space c.in-Get.name) true (lacks_space-name c.in-Get.name c.as_bytes-in-Get.ensures.name) refl))

pub returns-in-Get-clause-only : goal.returns-in-Get-clause-only
returns-in-Get-clause-only c = λ words read. sym (directory_words-directory_inv_of_words words c.args.inv.now read)

pub returns-in-Del-clause-words : goal.returns-in-Del-clause-words
returns-in-Del-clause-words c =
    rw c.in-Del.is
    (words_of_text-text_of_words (codes "del") (c.in-Del.name ∷ [])
    (and_from (lacks_space c.in-Del.name) true (lacks_space-name c.in-Del.name c.as_bytes-in-Del.ensures.name) refl))

pub returns-in-Del-clause-only : goal.returns-in-Del-clause-only
returns-in-Del-clause-only c = λ words read. sym (directory_words-directory_inv_of_words words c.args.inv.now read)

pub returns-in-Size-clause-only : goal.returns-in-Size-clause-only
returns-in-Size-clause-only c = λ words read. sym (directory_words-directory_inv_of_words words c.args.inv.now read)

pub returns-in-At-clause-words : goal.returns-in-At-clause-words
returns-in-At-clause-words c =
    let place : c.in-At.place ≤ 999999999999 = omega arith in
    rw c.in-At.is
    (words_of_text-text_of_words (codes "at") (decimal c.in-At.place ∷ [])
    (and_from (lacks_space (decimal c.in-At.place)) true (lacks_space-decimal c.in-At.place place) refl))

pub returns-in-At-clause-inv : goal.returns-in-At-clause-inv
returns-in-At-clause-inv c =
    let place : c.in-At.place < 256 = omega arith in
    let small : c.in-At.place ≤ 999999999999 = omega arith in
    rw c.in-At.is (ap (option_map At) (number_below-decimal 256 c.in-At.place place small))

pub returns-in-At-clause-only : goal.returns-in-At-clause-only
returns-in-At-clause-only c = λ words read. sym (directory_words-directory_inv_of_words words c.args.inv.now read)
