use Rattle.uni_core.proofs.Begin.{inside_view, within_locals, begun_now}
use Rattle.uni_core.proofs.world.World.begun.Goals as goal

pub index-requires : goal.index-requires
index-requires g c = rw c.self.inside.locals.ok.0 (within_locals _ _ _ c.self.view_is c.self.invariant c.args.p c.requires)

pub returns : goal.returns
returns g c = begun_now _ _ _ c.self.view_is c.self.invariant c.args.p c.index.result.now (inside_view _ _ c.args.p c.self.view_is c.requires) c.index.ensures
