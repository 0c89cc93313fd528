use Rattle.uni_record.proofs.Vocabulary.{CanGo, IsProgress, IsStepRefused, Step, ap, append-nil, arith, current_some, done_some, going_none, length, memory_needed, option_to_list, refl, standing_of, subst, sym, world_after, world_of, ◌∙◌, ◌≡◌}
use Rattle.uni_record.specs.declared.fault.RecordStepFault.TheVariants.{Memory}
use Rattle.uni_core.specs.declared.fault.Progress.TheVariants.{Going, Done}
use Rattle.uni_record.proofs.Paid.{n_after_step}
use Rattle.uni_record.proofs.Kept.{stepped_kept, room_for_step, nothing_completed, one_completed}
use Rattle.uni_record.proofs.Untrimmed.{progress-untrimmed}
use Rattle.uni_record.proofs.recorded.Recorded.step.Goals as goal

pub push-requires-clause-fits : goal.push-requires-clause-fits
push-requires-clause-fits g c =
    let below = rw c.processes.ensures at c.if-p-processes.false in
    let some = current_some (world_of c.self.inside.world) c.args.p c.in-Some.call c.in-Some.ensures in
    let room = room_for_step (g.O.SeqObject.sequential c.self.inside.world.object) (world_of c.self.inside.world) _ _ _ _ _ _ c.args.p c.self.invariant.1 c.shape.ensures.bounded below some in
    room.0

pub invariant_of-self : goal.invariant_of-self
invariant_of-self g c =
    let below = rw c.processes.ensures at c.if-p-processes.false in
    let some = current_some (world_of c.self.inside.world) c.args.p c.in-Some.call c.in-Some.ensures in
    let none = nothing_completed (g.O.SeqObject.sequential c.self.inside.world.object) (world_of c.self.inside.world) c.args.p (going_none _ (sym c.in-Ok-Going.field-0-is ∙ c.in-Ok-Going.ensures.progress)) in
    rw c.push.ensures.room
    (stepped_kept g.O.SeqObject.sequential _ c.args.p _ _ _ _ c.self.invariant.0 c.self.invariant.1 c.shape.ensures.bounded below some
    (record {
      object = c.step.ensures.fixed.object;
      processes = refl;
      first = refl;
      limit = refl;
      world = c.in-Ok-Going.ensures.step;
      events = c.push.ensures.events;
      returns = rw none (sym (append-nil c.self.inside.returns.items));
      counts = rw none (sym (append-nil c.self.inside.counts.items));
      ended = sym (append-nil _);
    }))

pub push-requires-in-Ok-Done-clause-fits : goal.push-requires-in-Ok-Done-clause-fits
push-requires-in-Ok-Done-clause-fits g c =
    let below = rw c.processes.ensures at c.if-p-processes.false in
    let some = current_some (world_of c.self.inside.world) c.args.p c.in-Some.call c.in-Some.ensures in
    let room = room_for_step (g.O.SeqObject.sequential c.self.inside.world.object) (world_of c.self.inside.world) _ _ _ _ _ _ c.args.p c.self.invariant.1 c.shape.ensures.bounded below some in
    room.0

pub push_reserved-requires : goal.push_reserved-requires
push_reserved-requires g c =
    let below = rw c.processes.ensures at c.if-p-processes.false in
    let some = current_some (world_of c.self.inside.world) c.args.p c.in-Some.call c.in-Some.ensures in
    let done = done_some _ c.in-Ok-Done.reply (sym c.in-Ok-Done.field-0-is ∙ c.in-Ok-Done.ensures.progress) in
    let one = ap (λ o. length (option_to_list o)) (one_completed (g.O.SeqObject.sequential c.self.inside.world.object) (world_of c.self.inside.world) c.args.p c.in-Some.call c.in-Ok-Done.reply c.in-Some.ensures done) in
    let room = room_for_step (g.O.SeqObject.sequential c.self.inside.world.object) (world_of c.self.inside.world) _ _ _ _ _ _ c.args.p c.self.invariant.1 c.shape.ensures.bounded below some in
    let told = room.1 in
    let len = c.self.inside.returns.ok.0 in
    omega (arith, one, told, len)

pub steps-requires : goal.steps-requires
steps-requires g c =
    let below = rw c.processes.ensures at c.if-p-processes.false in
    let same = ap (λ w. w.n) c.in-Ok-Done.ensures.step ∙ n_after_step (g.O.SeqObject.sequential c.self.inside.world.object) (world_of c.self.inside.world) c.args.p in
    omega (arith, below, same)

pub turns-requires : goal.turns-requires
turns-requires g c =
    let below = rw c.processes.ensures at c.if-p-processes.false in
    let same = ap (λ w. w.n) c.in-Ok-Done.ensures.step ∙ n_after_step (g.O.SeqObject.sequential c.self.inside.world.object) (world_of c.self.inside.world) c.args.p in
    omega (arith, below, same)

pub push_reserved-requires-in-Ok-Done : goal.push_reserved-requires-in-Ok-Done
push_reserved-requires-in-Ok-Done g c =
    let below = rw c.processes.ensures at c.if-p-processes.false in
    let some = current_some (world_of c.self.inside.world) c.args.p c.in-Some.call c.in-Some.ensures in
    let done = done_some _ c.in-Ok-Done.reply (sym c.in-Ok-Done.field-0-is ∙ c.in-Ok-Done.ensures.progress) in
    let one = ap (λ o. length (option_to_list o)) (one_completed (g.O.SeqObject.sequential c.self.inside.world.object) (world_of c.self.inside.world) c.args.p c.in-Some.call c.in-Ok-Done.reply c.in-Some.ensures done) in
    let room = room_for_step (g.O.SeqObject.sequential c.self.inside.world.object) (world_of c.self.inside.world) _ _ _ _ _ _ c.args.p c.self.invariant.1 c.shape.ensures.bounded below some in
    let counted = room.2 in
    let len = c.self.inside.counts.ok.0 in
    omega (arith, one, counted, len)

pub invariant_of-self-in-Ok-Done : goal.invariant_of-self-in-Ok-Done
invariant_of-self-in-Ok-Done g c =
    let below = rw c.processes.ensures at c.if-p-processes.false in
    let some = current_some (world_of c.self.inside.world) c.args.p c.in-Some.call c.in-Some.ensures in
    let done = done_some _ c.in-Ok-Done.reply (sym c.in-Ok-Done.field-0-is ∙ c.in-Ok-Done.ensures.progress) in
    let one = one_completed (g.O.SeqObject.sequential c.self.inside.world.object) (world_of c.self.inside.world) c.args.p c.in-Some.call c.in-Ok-Done.reply c.in-Some.ensures done in
    rw (c.push-in-Ok-Done.ensures.room, c.push_reserved.ensures.capacity, c.push_reserved-in-Ok-Done.ensures.capacity)
    (stepped_kept g.O.SeqObject.sequential _ c.args.p _ _ _ _ c.self.invariant.0 c.self.invariant.1 c.shape.ensures.bounded below some
    (record {
      object = c.step.ensures.fixed.object;
      processes = refl;
      first = refl;
      limit = refl;
      world = c.in-Ok-Done.ensures.step;
      events = c.push-in-Ok-Done.ensures.events;
      returns = rw one c.push_reserved.ensures.items;
      counts = rw (one, ← c.in-Ok-Done.ensures.step, ← c.steps.ensures.value, ← c.turns.ensures.value) c.push_reserved-in-Ok-Done.ensures.items;
      ended = sym (append-nil _);
    }))

pub invariant_of-self-in-Err : goal.invariant_of-self-in-Err
invariant_of-self-in-Err g c = rw c.in-Err.ensures.unchanged c.self.invariant

pub returns-in-Ok-Going-clause-step : goal.returns-in-Ok-Going-clause-step
returns-in-Ok-Going-clause-step g c = subst (λ r. world_of c.step.new.self ≡ world_after (g.O.SeqObject.sequential r.world.object) (world_of r.world) (Step c.args.p)) c.self.view_is c.in-Ok-Going.ensures.step

pub returns-in-Ok-Going-clause-progress : goal.returns-in-Ok-Going-clause-progress
returns-in-Ok-Going-clause-progress g c = subst (λ r. IsProgress (world_of r.world) c.args.p Going) c.self.view_is (sym c.in-Ok-Going.field-0-is ∙ c.in-Ok-Going.ensures.progress)

pub returns-in-Ok-Done-clause-step : goal.returns-in-Ok-Done-clause-step
returns-in-Ok-Done-clause-step g c = subst (λ r. world_of c.step.new.self ≡ world_after (g.O.SeqObject.sequential r.world.object) (world_of r.world) (Step c.args.p)) c.self.view_is c.in-Ok-Done.ensures.step

pub returns-in-Ok-Done-clause-progress : goal.returns-in-Ok-Done-clause-progress
returns-in-Ok-Done-clause-progress g c = subst (λ r. IsProgress (world_of r.world) c.args.p (Done c.in-Ok-Done.reply)) c.self.view_is (sym c.in-Ok-Done.field-0-is ∙ c.in-Ok-Done.ensures.progress)

pub returns-in-Err-clause-refused : goal.returns-in-Err-clause-refused
returns-in-Err-clause-refused g c =
    let can : CanGo (world_of c.self.inside.world) c.args.p = (rw c.processes.ensures at c.if-p-processes.false, current_some (world_of c.self.inside.world) c.args.p c.in-Some.call c.in-Some.ensures) in
    subst (λ r. IsStepRefused (standing_of r) c.args.p Memory) c.self.view_is
    (can, memory_needed (world_of c.self.inside.world) c.args.p c.in-Err.field-0 can c.in-Err.ensures.refused)

pub returns-in-Ok-Going-clause-allowed : goal.returns-in-Ok-Going-clause-allowed
returns-in-Ok-Going-clause-allowed g c = subst (λ r. CanGo (world_of r.world) c.args.p) c.self.view_is
    (rw c.processes.ensures at c.if-p-processes.false, current_some (world_of c.self.inside.world) c.args.p c.in-Some.call c.in-Some.ensures)

pub returns-in-Ok-Done-clause-allowed : goal.returns-in-Ok-Done-clause-allowed
returns-in-Ok-Done-clause-allowed g c = subst (λ r. CanGo (world_of r.world) c.args.p) c.self.view_is
    (rw c.processes.ensures at c.if-p-processes.false, current_some (world_of c.self.inside.world) c.args.p c.in-Some.call c.in-Some.ensures)

pub returns-in-Ok-Going-clause-untrimmed : goal.returns-in-Ok-Going-clause-untrimmed
returns-in-Ok-Going-clause-untrimmed g c = progress-untrimmed g.O.SeqObject.sequential c.args.self.now c.promise.ensures.recording c.args.p Going
    (subst (λ r. IsProgress (world_of r.world) c.args.p Going) c.self.view_is (sym c.in-Ok-Going.field-0-is ∙ c.in-Ok-Going.ensures.progress))

pub returns-in-Ok-Done-clause-untrimmed : goal.returns-in-Ok-Done-clause-untrimmed
returns-in-Ok-Done-clause-untrimmed g c = progress-untrimmed g.O.SeqObject.sequential c.args.self.now c.promise.ensures.recording c.args.p (Done c.in-Ok-Done.reply)
    (subst (λ r. IsProgress (world_of r.world) c.args.p (Done c.in-Ok-Done.reply)) c.self.view_is (sym c.in-Ok-Done.field-0-is ∙ c.in-Ok-Done.ensures.progress))
