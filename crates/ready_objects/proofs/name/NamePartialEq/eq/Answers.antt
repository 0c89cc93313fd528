use Rattle.ready_objects.proofs.name.NamePartialEq.eq.Goals as goal

pub returns : goal.returns
returns c = cc
