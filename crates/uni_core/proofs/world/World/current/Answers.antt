use Rattle.std.proofs.Common.{arith, refl, ap, not}
use Rattle.uni_core.proofs.Begin.{inside_view, within_locals, begun_one, few_enough, current_now, no_call, no_call_now}
use Rattle.uni_core.proofs.world.World.current.Goals as goal

-- src/world.rt:225:22
pub overflow_cast-result : goal.overflow_cast-result
overflow_cast-result g c = let h = few_enough _ _ _ c.self.view_is c.self.invariant c.args.p c.index.result.now (inside_view _ _ c.args.p c.self.view_is c.requires) c.index.ensures in omega arith

-- src/world.rt:226:18
pub overflow_sub-result : goal.overflow_sub-result
overflow_sub-result g c = begun_one _ _ _ c.self.view_is c.self.invariant c.args.p c.index.result.now (inside_view _ _ c.args.p c.self.view_is c.requires) c.index.ensures c.is_none.result c.is_none.ensures c.if-is_none.false

-- src/world.rt:216:5
pub returns : goal.returns
returns g c = current_now _ _ _ c.self.view_is c.self.invariant c.args.p c.index.result.now (inside_view _ _ c.args.p c.self.view_is c.requires) c.index.ensures c.is_none.result c.is_none.ensures c.if-is_none.false

pub index-requires : goal.index-requires
index-requires g c = rw c.self.inside.locals.ok.0 (within_locals _ _ _ c.self.view_is c.self.invariant c.args.p c.requires)

pub returns-then-is_none : goal.returns-then-is_none
returns-then-is_none g c = rw (no_call_now _ _ _ c.self.view_is c.self.invariant c.args.p c.index.result.now (inside_view _ _ c.args.p c.self.view_is c.requires) c.index.ensures (no_call _ _ _ c.self.view_is c.self.invariant c.args.p c.index.result.now (inside_view _ _ c.args.p c.self.view_is c.requires) c.index.ensures _ c.is_none.ensures (ap not c.if-is_none.true))) refl
