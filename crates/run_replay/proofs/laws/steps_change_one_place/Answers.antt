use Rattle.run_replay.proofs.Vocabulary.{refl}
use Rattle.run_replay.proofs.laws.steps_change_one_place.Goals as goal

pub returns-clause-steps : goal.returns-clause-steps
returns-clause-steps g c object w p call some x other = rw (some, other) refl

pub returns-clause-calls : goal.returns-clause-calls
returns-clause-calls g c object w p inv x other = rw other refl
