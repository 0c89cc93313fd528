use Rattle.ready_objects.proofs.spoken.is_text.Goals as goal

pub returns : goal.returns
returns c = cc
