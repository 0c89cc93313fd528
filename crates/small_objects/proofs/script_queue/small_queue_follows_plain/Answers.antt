use Rattle.small_objects.proofs.Vocabulary.{refl}
use Rattle.small_objects.specs.ScriptQueue.{call_in, queue_of, reply_words}
use Rattle.small_objects.proofs.Rings.{last_is, last_values, next_reply}
use Rattle.small_objects.proofs.Scripts.{answer_is, next_is, same_below, script_few}
use Rattle.small_objects.proofs.script_queue.small_queue_follows_plain.Goals as goal

pub returns-clause-values : goal.returns-clause-values
returns-clause-values c capacity is =
    last_values capacity (queue_of capacity) call_in reply_words refl (script_few capacity) is

pub returns-clause-replies : goal.returns-clause-replies
returns-clause-replies c capacity is i =
    next_reply capacity (queue_of capacity) call_in reply_words refl (script_few capacity) is i

pub returns-clause-words : goal.returns-clause-words
returns-clause-words c capacity is =
    last_is capacity (queue_of capacity) call_in reply_words refl (script_few capacity) is

pub returns-clause-scripts : goal.returns-clause-scripts
returns-clause-scripts c values call = (next_is values call, answer_is values call)

pub returns-clause-smaller : goal.returns-clause-smaller
returns-clause-smaller c capacity values call less most = same_below capacity values call less most
