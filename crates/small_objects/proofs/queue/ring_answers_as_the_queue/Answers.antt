use Rattle.small_objects.proofs.Vocabulary.{bounded_queue, first_word, one_word, refl}
use Rattle.small_objects.proofs.Queues.{queue_few}
use Rattle.small_objects.proofs.Rings.{last_is, last_values, next_reply}
use Rattle.small_objects.proofs.queue.ring_answers_as_the_queue.Goals as goal

pub returns-clause-values : goal.returns-clause-values
returns-clause-values c capacity is =
    last_values capacity (bounded_queue capacity) first_word one_word refl (queue_few capacity) is

pub returns-clause-replies : goal.returns-clause-replies
returns-clause-replies c capacity is i =
    next_reply capacity (bounded_queue capacity) first_word one_word refl (queue_few capacity) is i

pub returns-clause-words : goal.returns-clause-words
returns-clause-words c capacity is =
    last_is capacity (bounded_queue capacity) first_word one_word refl (queue_few capacity) is
