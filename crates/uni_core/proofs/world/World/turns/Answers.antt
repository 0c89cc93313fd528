use Rattle.uni_core.proofs.Begin.{inside_view, within_locals, turns_now}
use Rattle.uni_core.proofs.Counted.{bound_pending, bound_turns}
use Rattle.uni_core.proofs.world.World.turns.Goals as goal

pub index-requires : goal.index-requires
index-requires g c = rw c.self.inside.locals.ok.0 (within_locals _ _ _ c.self.view_is c.self.invariant c.args.p c.requires)

pub returns-clause-value : goal.returns-clause-value
returns-clause-value g c = turns_now _ _ _ c.self.view_is c.self.invariant c.args.p c.index.result.now (inside_view _ _ c.args.p c.self.view_is c.requires) c.index.ensures

pub returns-clause-bound : goal.returns-clause-bound
returns-clause-bound g c =
    let value = turns_now _ _ _ c.self.view_is c.self.invariant c.args.p c.index.result.now (inside_view _ _ c.args.p c.self.view_is c.requires) c.index.ensures in
    rw value (bound_turns _ _ _ _ _ _ (c.shape.ensures.bounded c.args.p))

pub returns-clause-pending : goal.returns-clause-pending
returns-clause-pending g c some =
    let value = turns_now _ _ _ c.self.view_is c.self.invariant c.args.p c.index.result.now (inside_view _ _ c.args.p c.self.view_is c.requires) c.index.ensures in
    rw value (bound_pending _ _ _ _ _ _ (c.shape.ensures.bounded c.args.p) some).1

pub returns-clause-none : goal.returns-clause-none
returns-clause-none g c none =
    let value = turns_now _ _ _ c.self.view_is c.self.invariant c.args.p c.index.result.now (inside_view _ _ c.args.p c.self.view_is c.requires) c.index.ensures in
    rw value (c.shape.ensures.none c.args.p none).2
