use Rattle.small_objects.proofs.Vocabulary.{bounded_queue, slice_index, subst, ◌∙◌, ◌≢◌}
use Rattle.small_objects.specs.Ring.{ring_in}
use Rattle.small_objects.proofs.Queues.{is_queue, puts, takes}
use Rattle.small_objects.proofs.Rings.{put_alike, take_alike}
use Rattle.small_objects.proofs.queue.SmallQueueSmallObject.touches.Goals.{else-invocation-eq0, then-invocation-eq0}
use Rattle.small_objects.proofs.queue.SmallQueueSmallObject.touches.Goals as goal

pub first_of-slot-requires : goal.first_of-slot-requires
first_of-slot-requires c = (is_queue c.args.self.now.capacity c.args.state.now c.requires.reached).ring

pub end_of-slot-requires : goal.end_of-slot-requires
end_of-slot-requires c = (is_queue c.args.self.now.capacity c.args.state.now c.requires.reached).ring

pub returns : goal.returns
returns c =
    let room = c.args.self.now.capacity in
    let h = is_queue room c.args.state.now c.requires.reached in
    let inv = slice_index c.args.invocation.now 0 in
    let values = (ring_in c.args.state.now).values in
    λ i inside apart. let other = c.touching.ensures i apart in elim c.if-invocation-eq0.branch [
      | then-invocation-eq0 b ↦
          take_alike h (bounded_queue room) inv (takes room values inv b.if-invocation-eq0.true) i other.0
          (subst (λ slot. i ≢ slot) (b.slot-is ∙ b.first_of-slot.ensures.word) other.1)
      | else-invocation-eq0 b ↦
          put_alike h (bounded_queue room) inv inv (puts room values inv b.if-invocation-eq0.false) i other.0
          (subst (λ slot. i ≢ slot) (b.slot-is ∙ b.end_of-slot.ensures.word) other.1)
    ]
