use Rattle.small_objects.proofs.Vocabulary.{ap, subst, sym, ◌∙◌, ◌≢◌}
use Rattle.small_objects.specs.ScriptQueue.{call_in, queue_of, values_after}
use Rattle.small_objects.specs.Ring.{ring_in}
use Rattle.small_objects.proofs.Rings.{put_alike, take_alike}
use Rattle.small_objects.proofs.Scripts.{is_script, takes}
use Rattle.small_objects.proofs.script_queue.SmallScriptQueueSmallObject.touches.Goals.{in-Deq, in-Enq}
use Rattle.small_objects.proofs.script_queue.SmallScriptQueueSmallObject.touches.Goals as goal

pub end_of-slot-requires : goal.end_of-slot-requires
end_of-slot-requires c = (is_script c.args.self.now.capacity c.args.state.now c.requires.reached).ring

pub first_of-slot-requires : goal.first_of-slot-requires
first_of-slot-requires c = (is_script c.args.self.now.capacity c.args.state.now c.requires.reached).ring

pub returns : goal.returns
returns c =
    let room = c.args.self.now.capacity in
    let h = is_script room c.args.state.now c.requires.reached in
    let call = call_in c.args.invocation.now in
    let values = (ring_in c.args.state.now).values in
    let next = ap (values_after room values) (sym c.load.ensures) in
    λ i inside apart. let other = c.touching.ensures i apart in elim c.match-load.branch [
      | in-Enq b ↦
          put_alike h (queue_of room) call b.in-Enq.field-0 (next ∙ ap (values_after room values) b.in-Enq.is) i other.0
          (subst (λ slot. i ≢ slot) (b.slot-is ∙ b.end_of-slot.ensures.word) other.1)
      | in-Deq b ↦
          let its = next ∙ ap (values_after room values) b.in-Deq.is ∙ takes room values in
          take_alike h (queue_of room) call its i other.0
          (subst (λ slot. i ≢ slot) (b.slot-is ∙ b.first_of-slot.ensures.word) other.1)
    ]
