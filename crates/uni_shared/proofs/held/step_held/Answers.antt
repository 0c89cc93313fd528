use Rattle.uni_shared.proofs.Vocabulary.{refl, rules, world_of}
use Rattle.uni_shared.proofs.Holding.{current_of-past, world_after-same}
use Rattle.uni_shared.proofs.held.step_held.Goals as goal

pub returns-then-p-processes-clause-not_its : goal.returns-then-p-processes-clause-not_its
returns-then-p-processes-clause-not_its g c =
    let sound = rw c.world.ensures at c.shape.ensures.sound in
    let past = rw (c.processes.ensures, c.world-2.ensures, c.from-p.ensures) at c.if-p-processes.true in (
      λ e is. current_of-past _ (world_of c.args.recorded.now.world) c.args.call.process c.args.call sound past is,
      λ h. refl,
    )

pub returns-in-Ok-Going-clause-step : goal.returns-in-Ok-Going-clause-step
returns-in-Ok-Going-clause-step g c = world_after-same (g.O.SeqObject.sequential c.args.recorded.now.world.object) (world_of c.args.recorded.now.world) (world_of c.step.new.self.world) _ _ c.from-p.ensures c.in-Ok-Going.ensures.step

pub returns-in-Ok-Done-clause-step : goal.returns-in-Ok-Done-clause-step
returns-in-Ok-Done-clause-step g c = world_after-same (g.O.SeqObject.sequential c.args.recorded.now.world.object) (world_of c.args.recorded.now.world) (world_of c.step.new.self.world) _ _ c.from-p.ensures c.in-Ok-Done.ensures.step

pub returns-in-Ok-Done-clause-reply : goal.returns-in-Ok-Done-clause-reply
returns-in-Ok-Done-clause-reply g c = search rules
