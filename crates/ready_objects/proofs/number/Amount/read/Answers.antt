use Rattle.ready_objects.proofs.Vocabulary.{number_of_word, rules}
use Rattle.ready_objects.proofs.number.Amount.read.Goals as goal

pub returns-then-is_number : goal.returns-then-is_number
unfolding number_of_word
returns-then-is_number c = search rules

pub returns-else-is_number : goal.returns-else-is_number
unfolding number_of_word
returns-else-is_number c = search rules
