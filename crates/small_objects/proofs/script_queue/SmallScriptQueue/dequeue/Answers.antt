use Rattle.small_objects.proofs.Vocabulary.{Taken, ap, arith, slice_index, subst, sym, ◌∙◌, ◌≢◌, ◌≤◌}
use Rattle.ready_objects.specs.declared.queue.QueueInv.TheVariants.{Deq}
use Rattle.small_objects.specs.Ring.{ring_in}
use Rattle.small_objects.specs.ScriptQueue.{queue_of}
use Rattle.small_objects.proofs.Rings.{first_is, none_next, take_next}
use Rattle.small_objects.proofs.Scripts.{nothing_reply, taken_reply, takes}
use Rattle.small_objects.proofs.script_queue.SmallScriptQueue.dequeue.Goals as goal

pub returns-then-state-eq0-clause-state : goal.returns-then-state-eq0-clause-state
returns-then-state-eq0-clause-state c =
    let room = c.args.self.now.capacity in
    none_next c.requires.ring (queue_of room) Deq (takes room (ring_in c.args.state.now).values) c.if-state-eq0.true

pub returns-then-state-eq0-clause-reply : goal.returns-then-state-eq0-clause-reply
returns-then-state-eq0-clause-reply c = nothing_reply c.requires.ring c.if-state-eq0.true

pub unreachable-requires : goal.unreachable-requires
unreachable-requires c =
    let some : slice_index c.args.state.now 0 ≢ 0 = c.if-state-eq0.false in
    let first = c.take_first-first.ensures.first ∙ first_is c.requires.ring (omega (arith, some)) in
    c.in_default.ensures (subst (λ n. n ≤ 999999999999) (sym first) c.requires.small)

pub returns-clause-state : goal.returns-clause-state
returns-clause-state c =
    let room = c.args.self.now.capacity in
    let its = takes room (ring_in c.args.state.now).values in
    let some : slice_index c.args.state.now 0 ≢ 0 = c.if-state-eq0.false in
    c.take_first-first.ensures.state ∙ take_next c.requires.ring (queue_of room) Deq its (omega (arith, some))

pub returns-clause-reply : goal.returns-clause-reply
returns-clause-reply c =
    let some : slice_index c.args.state.now 0 ≢ 0 = c.if-state-eq0.false in
    ap Taken (c.in-Some.ensures.1 ∙ c.take_first-first.ensures.first)
    ∙ taken_reply c.requires.ring (omega (arith, some))
