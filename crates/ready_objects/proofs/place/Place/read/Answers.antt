use Rattle.ready_objects.proofs.Vocabulary.{number_below, rules}
use Rattle.ready_objects.proofs.place.Place.read.Goals as goal

pub returns : goal.returns
unfolding number_below
returns c = search rules

pub returns-in_err-read : goal.returns-in_err-read
unfolding number_below
returns-in_err-read c = search rules
