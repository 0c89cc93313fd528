use Rattle.uni_core.proofs.Begin.{within_locals}
use Rattle.uni_core.proofs.world.World.standing.Goals as goal

pub index-requires : goal.index-requires
index-requires g c = rw c.self.inside.locals.ok.0 (within_locals _ _ _ c.self.view_is c.self.invariant c.args.p c.requires)
