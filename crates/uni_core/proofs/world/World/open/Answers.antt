use Rattle.uni_core.proofs.world.World.open.Goals as goal

pub returns-clause-opened : goal.returns-clause-opened
returns-clause-opened g c = c.open_from.ensures.opened
