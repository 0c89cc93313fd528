use Rattle.std.proofs.Common.{◌∙◌, ap, refl}
use Rattle.small_objects.specs.Encoding.{encoded, first_word, one_word}
use Rattle.small_objects.proofs.Reached.{after_in, follows_plain}
use Rattle.word_objects.specs.Machine.{machine}
use Rattle.word_objects.proofs.small_machine.small_machine_follows_plain.Goals as goal

pub returns-clause-states : goal.returns-clause-states
returns-clause-states c t is = after_in (encoded (machine t) one_word first_word) first_word one_word (one_word 0) is
    ∙ follows_plain (machine t) first_word one_word first_word (λ state was. refl) is

pub returns-clause-replies : goal.returns-clause-replies
returns-clause-replies c t is i =
    ap (λ words. one_word ((machine t).answer (first_word words) (first_word i))) (returns-clause-states c t is)
