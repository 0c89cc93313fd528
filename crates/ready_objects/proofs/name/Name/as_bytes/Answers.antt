use Rattle.ready_objects.proofs.name.Name.as_bytes.Goals as goal

pub returns-clause-bytes : goal.returns-clause-bytes
returns-clause-bytes c = cc
