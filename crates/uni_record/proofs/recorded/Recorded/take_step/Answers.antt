use Rattle.uni_record.proofs.Vocabulary.{IsStepRefused, Some, current_of, done_some, going_none, refl, standing_of, subst, sym, world_of, ◌∙◌, ◌≡◌}
use Rattle.uni_record.specs.declared.event.Event.TheVariants as stored
use Rattle.uni_record.specs.declared.command.Refusal.TheVariants.{Memory}
use Rattle.uni_record.proofs.Commanded.{TakesCommand-done, TakesCommand-refused}
use Rattle.uni_record.proofs.recorded.Recorded.take_step.Goals as goal

pub returns-in-Ok-Going : goal.returns-in-Ok-Going
returns-in-Ok-Going g c = record {
  takes = TakesCommand-done g.O.SeqObject.sequential c.args.self.now c.step.new.self _ _ (stored.Step c.args.p) refl
      (c.in-Ok-Going.ensures.allowed, going_none _ (sym c.in-Ok-Going.field-0-is ∙ c.in-Ok-Going.ensures.progress))
      c.in-Ok-Going.ensures.step c.in-Ok-Going.ensures.event c.in-Ok-Going.ensures.fixed;
}

pub returns-in-Ok-Done : goal.returns-in-Ok-Done
returns-in-Ok-Done g c = record {
  takes = TakesCommand-done g.O.SeqObject.sequential c.args.self.now c.step.new.self _ _ (stored.Step c.args.p) refl
      (c.in-Ok-Done.ensures.allowed, subst (λ r. current_of (world_of r.world) c.args.p ≡ Some c.in-Some.call) c.self.view_is (sym c.in-Some.ensures), done_some _ c.in-Ok-Done.response (sym c.in-Ok-Done.field-0-is ∙ c.in-Ok-Done.ensures.progress))
      c.in-Ok-Done.ensures.step c.in-Ok-Done.ensures.event c.in-Ok-Done.ensures.fixed;
}

pub returns-in-Err-Memory : goal.returns-in-Err-Memory
returns-in-Err-Memory g c = record {
  takes = TakesCommand-refused g.O.SeqObject.sequential c.args.self.now c.step.new.self _ Memory c.in-Err-Memory.ensures.unchanged
      (subst (λ e. IsStepRefused (standing_of c.args.self.now) c.args.p e) c.in-Err-Memory.field-0-is c.in-Err-Memory.ensures.refused);
}
