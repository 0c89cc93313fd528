use Rattle.std.proofs.Common.{ap, refl, sym, ◌∙◌}
use Rattle.uni_core.specs.World.{progress_of}
use Rattle.uni_core.proofs.Begin.{inside_count, inside_view, no_call_now}
use Rattle.uni_core.proofs.Stepped.{can_step, can_go, may_need, steps_fit, turns_fit, IsWorld-left, IsBounded-left, world_of-left_with, Follows-left_with, PlacesBesideAreSettled-left, answers, still_pending, if_not_ok}
use Rattle.uni_core.proofs.world.World.step.Goals as goal
use Rattle.uni_core.proofs.world.World.step.Goals.{in-None, in-Some-response}

pub take_step-requires-clause-step : goal.take_step-requires-clause-step
take_step-requires-clause-step g c = can_step _ _ _ c.self.view_is c.self.invariant c.args.p c.processes.result c.index_mut-local.result.now c.processes.ensures c.if-p-processes.false c.index_mut-local.ensures.value c.in-Some.call.now (sym c.in-Some.ensures.value)

pub returns-in_default-take_step-clause-refused : goal.returns-in_default-take_step-clause-refused
returns-in_default-take_step-clause-refused g c = (
  can_go _ _ _ c.self.view_is c.self.invariant c.args.p c.processes.result c.index_mut-local.result.now c.processes.ensures c.if-p-processes.false c.index_mut-local.ensures.value c.in-Some.call.now (sym c.in-Some.ensures.value),
  may_need _ _ _ c.self.view_is c.self.invariant c.args.p c.processes.result c.index_mut-local.result.now c.processes.ensures c.if-p-processes.false c.index_mut-local.ensures.value c.in-Some.call.now (sym c.in-Some.ensures.value) (if_not_ok c.take_step.result c.in_default-take_step.not-Ok c.take_step.ensures.refused),
)

pub advance-requires-clause-steps : goal.advance-requires-clause-steps
advance-requires-clause-steps g c = steps_fit _ _ _ c.self.view_is c.self.invariant c.args.p c.processes.result c.index_mut-local.result.now c.processes.ensures c.if-p-processes.false c.index_mut-local.ensures.value c.in-Some.call.now (sym c.in-Some.ensures.value)

pub advance-requires-clause-turns : goal.advance-requires-clause-turns
advance-requires-clause-turns g c = turns_fit _ _ _ c.self.view_is c.self.invariant c.args.p c.processes.result c.index_mut-local.result.now c.processes.ensures c.if-p-processes.false c.index_mut-local.ensures.value c.in-Some.call.now (sym c.in-Some.ensures.value)

pub invariant_of-self-2 : goal.invariant_of-self-2
invariant_of-self-2 g c = rw c.in-Ok.ensures.object (IsWorld-left _ _ _ c.self.view_is c.self.invariant c.args.p c.processes.result c.index_mut-local.result.now c.processes.ensures c.if-p-processes.false c.index_mut-local.ensures.value c.in-Some.call.now (sym c.in-Some.ensures.value)
    c.take_step.new.self.shared c.take_step.new.stage c.in-Ok.response c.in-Ok.ensures.taken c.is_some.result c.is_some.ensures c.advance.new.self c.advance.ensures.call c.advance.ensures.begun c.advance.ensures.among c.advance.ensures.steps c.advance.ensures.turns)

pub returns-clause-allowed : goal.returns-clause-allowed
returns-clause-allowed g c = can_go _ _ _ c.self.view_is c.self.invariant c.args.p c.processes.result c.index_mut-local.result.now c.processes.ensures c.if-p-processes.false c.index_mut-local.ensures.value c.in-Some.call.now (sym c.in-Some.ensures.value)

pub returns-clause-step : goal.returns-clause-step
returns-clause-step g c = world_of-left_with _ _ _ c.self.view_is c.self.invariant c.args.p c.processes.result c.index_mut-local.result.now c.processes.ensures c.if-p-processes.false c.index_mut-local.ensures.value c.in-Some.call.now (sym c.in-Some.ensures.value)
    c.take_step.new.self.shared c.take_step.new.stage c.in-Ok.response c.in-Ok.ensures.taken c.is_some.result c.is_some.ensures c.advance.new.self c.advance.ensures.call c.advance.ensures.begun c.advance.ensures.among c.advance.ensures.steps c.advance.ensures.turns
    c.take_step.new.self.object g.O.SeqObject.sequential refl

pub returns-clause-bounded : goal.returns-clause-bounded
returns-clause-bounded g c = IsBounded-left _ _ _ c.self.view_is c.self.invariant c.args.p c.processes.result c.index_mut-local.result.now c.processes.ensures c.if-p-processes.false c.index_mut-local.ensures.value c.in-Some.call.now (sym c.in-Some.ensures.value)
    c.take_step.new.self.shared c.take_step.new.stage c.in-Ok.response c.in-Ok.ensures.taken c.is_some.result c.is_some.ensures c.advance.new.self c.advance.ensures.call c.advance.ensures.begun c.advance.ensures.among c.advance.ensures.steps c.advance.ensures.turns

pub returns-clause-pending : goal.returns-clause-pending
returns-clause-pending g c going = still_pending _ _ _ c.self.view_is c.self.invariant c.args.p c.processes.result c.index_mut-local.result.now c.processes.ensures c.if-p-processes.false c.index_mut-local.ensures.value c.in-Some.call.now (sym c.in-Some.ensures.value)
    c.take_step.new.self.shared c.take_step.new.stage c.in-Ok.response c.in-Ok.ensures.taken c.is_some.result c.is_some.ensures c.advance.new.self c.advance.ensures.call c.advance.ensures.begun c.advance.ensures.among c.advance.ensures.steps c.advance.ensures.turns (sym (elim c.match-response.branch [ in-None w ↦ w.result-is ∙ ap progress_of (sym w.in-None.is) | in-Some-response w ↦ w.result-is ∙ ap progress_of (sym w.in-Some-response.is) ]) ∙ going)

pub returns-clause-progress : goal.returns-clause-progress
returns-clause-progress g c = (elim c.match-response.branch [ in-None w ↦ w.result-is ∙ ap progress_of (sym w.in-None.is) | in-Some-response w ↦ w.result-is ∙ ap progress_of (sym w.in-Some-response.is) ]) ∙ answers _ _ _ c.self.view_is c.self.invariant c.args.p c.processes.result c.index_mut-local.result.now c.processes.ensures c.if-p-processes.false c.index_mut-local.ensures.value c.in-Some.call.now (sym c.in-Some.ensures.value)
    c.take_step.new.self.shared c.take_step.new.stage c.in-Ok.response c.in-Ok.ensures.taken c.is_some.result c.is_some.ensures c.advance.new.self c.advance.ensures.call c.advance.ensures.begun c.advance.ensures.among c.advance.ensures.steps c.advance.ensures.turns

pub returns-clause-simulated : goal.returns-clause-simulated
returns-clause-simulated g c = Follows-left_with _ _ _ c.self.view_is c.self.invariant c.args.p c.processes.result c.index_mut-local.result.now c.processes.ensures c.if-p-processes.false c.index_mut-local.ensures.value c.in-Some.call.now (sym c.in-Some.ensures.value)
    c.take_step.new.self.shared c.take_step.new.stage c.in-Ok.response c.in-Ok.ensures.taken c.is_some.result c.is_some.ensures c.advance.new.self c.advance.ensures.call c.advance.ensures.begun c.advance.ensures.among c.advance.ensures.steps c.advance.ensures.turns
    c.take_step.new.self.object g.O.SeqObject.sequential refl

pub returns-clause-beside : goal.returns-clause-beside
returns-clause-beside g c = PlacesBesideAreSettled-left _ _ _ c.self.view_is c.self.invariant c.args.p c.processes.result c.index_mut-local.result.now c.processes.ensures c.if-p-processes.false c.index_mut-local.ensures.value c.in-Some.call.now (sym c.in-Some.ensures.value)
    c.take_step.new.self.shared c.take_step.new.stage c.in-Ok.response c.in-Ok.ensures.taken c.is_some.result c.is_some.ensures c.advance.new.self c.advance.ensures.call c.advance.ensures.begun c.advance.ensures.among c.advance.ensures.steps c.advance.ensures.turns

pub returns-in_default-clause-refused : goal.returns-in_default-clause-refused
returns-in_default-clause-refused g c = (
  refl,
  (
    inside_view _ _ c.args.p (sym c.self.view_is) (inside_count _ _ c.args.p c.processes.ensures c.if-p-processes.false),
    no_call_now _ _ _ c.self.view_is c.self.invariant c.args.p c.index_mut-local.result.now (inside_count _ _ c.args.p c.processes.ensures c.if-p-processes.false) c.index_mut-local.ensures.value (sym c.in_default.ensures.value),
  ),
)
