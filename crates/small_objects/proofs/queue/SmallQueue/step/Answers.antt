use Rattle.small_objects.proofs.Vocabulary.{ap, arith, bounded_queue, queue_answer, slice_index, sym, ◌∙◌, ◌≢◌}
use Rattle.small_objects.specs.Ring.{ring_in}
use Rattle.small_objects.proofs.Queues.{full_reply, put_reply, puts, takes}
use Rattle.small_objects.proofs.Rings.{first_is, full_next, none_next, put_next, take_next}
use Rattle.small_objects.proofs.queue.SmallQueue.step.Goals as goal

pub returns-then-state-eq0-clause-state : goal.returns-then-state-eq0-clause-state
returns-then-state-eq0-clause-state c =
    let room = c.args.self.now.capacity in
    let its = takes room (ring_in c.args.state.now).values c.args.inv c.if-inv-eq0.true in
    none_next c.requires (bounded_queue room) c.args.inv its c.if-state-eq0.true

pub returns-then-inv-eq0-clause-state : goal.returns-then-inv-eq0-clause-state
returns-then-inv-eq0-clause-state c =
    let room = c.args.self.now.capacity in
    let its = takes room (ring_in c.args.state.now).values c.args.inv c.if-inv-eq0.true in
    let some : slice_index c.args.state.now 0 ≢ 0 = c.if-state-eq0.false in
    c.take_first.ensures.state ∙ take_next c.requires (bounded_queue room) c.args.inv its (omega (arith, some))

pub returns-then-inv-eq0-clause-reply : goal.returns-then-inv-eq0-clause-reply
returns-then-inv-eq0-clause-reply c =
    let some : slice_index c.args.state.now 0 ≢ 0 = c.if-state-eq0.false in
    c.take_first.ensures.first ∙ first_is c.requires (omega (arith, some))
    ∙ ap (queue_answer c.args.self.now.capacity (ring_in c.args.state.now).values) (sym c.if-inv-eq0.true)

pub returns-then-state-self-clause-state : goal.returns-then-state-self-clause-state
returns-then-state-self-clause-state c =
    let room = c.args.self.now.capacity in
    let its = puts room (ring_in c.args.state.now).values c.args.inv c.if-inv-eq0.false in
    full_next c.requires (bounded_queue room) c.args.inv c.args.inv its c.if-state-self.true

pub returns-then-state-self-clause-reply : goal.returns-then-state-self-clause-reply
returns-then-state-self-clause-reply c = full_reply c.requires c.args.inv c.if-inv-eq0.false c.if-state-self.true

pub returns-clause-state : goal.returns-clause-state
returns-clause-state c =
    let room = c.args.self.now.capacity in
    let its = puts room (ring_in c.args.state.now).values c.args.inv c.if-inv-eq0.false in
    let less = c.if-state-self.false in
    c.put_last.ensures ∙ put_next c.requires (bounded_queue room) c.args.inv c.args.inv its (omega (arith, less))

pub returns-clause-reply : goal.returns-clause-reply
returns-clause-reply c =
    let less = c.if-state-self.false in
    put_reply c.requires c.args.inv c.if-inv-eq0.false (omega (arith, less))
