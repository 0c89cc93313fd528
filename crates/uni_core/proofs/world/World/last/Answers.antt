use Rattle.uni_core.proofs.Walk.{leads_at_first, last_at_end, leads_later}
use Rattle.uni_core.proofs.world.World.last.Goals as goal

pub loop-init : goal.loop-init
loop-init g c = leads_at_first c.args.self.now _ _ c.shape.ensures.sound c.shape.ensures.room c.shape.ensures.anchor c.anchor-last.ensures

pub returns-in_default-clause-last : goal.returns-in_default-clause-last
returns-in_default-clause-last g c = last_at_end c.args.self.now c.loop.last c.after.result c.loop.invariant.0.0 c.loop.invariant.0.2 c.after.ensures.link c.in_default.is

pub loop-preserved : goal.loop-preserved
loop-preserved g c = (
  leads_later c.args.self.now c.loop.last c.after.result c.in-Some.next c.loop.invariant.0.0 c.loop.counter c.processes.result c.row.result
      c.loop.invariant.0.2 c.after.ensures.link c.in-Some.is c.loop.invariant.0.1 c.processes.ensures c.row.ensures c.loop-test.true,
  c.in-Some.ensures.there,
)
