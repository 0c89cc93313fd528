use Rattle.ready_objects.proofs.Vocabulary.{digits_value, take, ◌≡◌}
use Rattle.ready_objects.proofs.number.digits_value.Given as goal

abbrev pub invariant-loop-digit : goal.invariant-loop-digit
invariant-loop-digit l = l.value ≡ digits_value 10 (take l.digit-index l.word)
