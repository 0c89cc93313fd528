use Rattle.uni_core.proofs.Vocabulary.{CanGo, refl, sym, world_of, ◌∙◌}
use Rattle.uni_core.proofs.Runs.{TakesCommand-refused, current_none, current_some, going_none, done_some, memory_needed}
use Rattle.uni_core.proofs.world.World.take_step.Goals as goal

pub returns-in_default-clause-takes : goal.returns-in_default-clause-takes
returns-in_default-clause-takes g c =
    let below = rw c.processes.ensures at c.if-p-processes.false in
    TakesCommand-refused _ c.args.self.now c.args.self.now _ _ _ refl (refl, (below, current_none (world_of c.args.self.now) c.args.p c.in_default.ensures))

pub returns-in-Ok-Going-clause-takes : goal.returns-in-Ok-Going-clause-takes
returns-in-Ok-Going-clause-takes g c = record {
  is = (
    (rw c.processes.ensures at c.if-p-processes.false, current_some (world_of c.args.self.now) c.args.p c.in-Some.call c.in-Some.ensures),
    going_none _ (sym c.in-Ok-Going.field-0-is ∙ c.in-Ok-Going.ensures.progress),
  );
  left = c.in-Ok-Going.ensures.step;
  accepted = c.in-Ok-Going.ensures.simulated;
}

pub returns-in-Ok-Done-clause-takes : goal.returns-in-Ok-Done-clause-takes
returns-in-Ok-Done-clause-takes g c = record {
  is = (
    rw c.processes.ensures at c.if-p-processes.false,
    sym c.in-Some.ensures,
    done_some _ c.in-Ok-Done.response (sym c.in-Ok-Done.field-0-is ∙ c.in-Ok-Done.ensures.progress),
  );
  left = c.in-Ok-Done.ensures.step;
  accepted = c.in-Ok-Done.ensures.simulated;
}

pub returns-in-Err-clause-takes : goal.returns-in-Err-clause-takes
returns-in-Err-clause-takes g c =
    let can : CanGo (world_of c.args.self.now) c.args.p = (rw c.processes.ensures at c.if-p-processes.false, current_some (world_of c.args.self.now) c.args.p c.in-Some.call c.in-Some.ensures) in
    TakesCommand-refused _ c.args.self.now c.step.new.self _ _ _ c.in-Err.ensures.unchanged
    (can, memory_needed (world_of c.args.self.now) c.args.p c.in-Err.field-0 can c.in-Err.ensures.refused)
