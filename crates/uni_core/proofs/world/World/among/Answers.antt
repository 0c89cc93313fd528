use Rattle.uni_core.proofs.Begin.{inside_view, within_locals, among_now}
use Rattle.uni_core.proofs.Counted.{bound_pending}
use Rattle.uni_core.proofs.world.World.among.Goals as goal

pub index-requires : goal.index-requires
index-requires g c = rw c.self.inside.locals.ok.0 (within_locals _ _ _ c.self.view_is c.self.invariant c.args.p c.requires)

pub returns-clause-value : goal.returns-clause-value
returns-clause-value g c = among_now _ _ _ c.self.view_is c.self.invariant c.args.p c.index.result.now (inside_view _ _ c.args.p c.self.view_is c.requires) c.index.ensures

pub returns-clause-pending : goal.returns-clause-pending
returns-clause-pending g c some =
    let value = among_now _ _ _ c.self.view_is c.self.invariant c.args.p c.index.result.now (inside_view _ _ c.args.p c.self.view_is c.requires) c.index.ensures in
    rw value (bound_pending _ _ _ _ _ _ (c.shape.ensures.bounded c.args.p) some).0

pub returns-clause-none : goal.returns-clause-none
returns-clause-none g c none =
    let value = among_now _ _ _ c.self.view_is c.self.invariant c.args.p c.index.result.now (inside_view _ _ c.args.p c.self.view_is c.requires) c.index.ensures in
    rw value (c.shape.ensures.none c.args.p none).0
