use Rattle.ready_objects.proofs.place.Place.number.Goals as goal

pub returns-clause-same : goal.returns-clause-same
returns-clause-same c = cc
