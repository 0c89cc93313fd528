use Rattle.small_objects.proofs.Vocabulary.{ap, arith, refl, ◌∙◌}
use Rattle.small_objects.specs.Ring.{with_last}
use Rattle.small_objects.specs.ScriptQueue.{queue_of}
use Rattle.ready_objects.specs.declared.queue.QueueInv.TheVariants.{Enq}
use Rattle.small_objects.proofs.Rings.{full_next, put_next}
use Rattle.small_objects.proofs.Scripts.{added_reply, refused_reply}
use Rattle.small_objects.proofs.script_queue.SmallScriptQueue.enqueue.Goals as goal

pub returns-then-state-self-clause-state : goal.returns-then-state-self-clause-state
returns-then-state-self-clause-state c =
    full_next c.requires (queue_of c.args.self.now.capacity) (Enq c.args.value) c.args.value refl c.if-state-self.true

pub returns-then-state-self-clause-reply : goal.returns-then-state-self-clause-reply
returns-then-state-self-clause-reply c = refused_reply c.requires c.args.value c.if-state-self.true

pub returns-clause-state : goal.returns-clause-state
returns-clause-state c =
    let less = c.if-state-self.false in
    c.put_last.ensures ∙ ap (with_last c.args.state.now) c.number.ensures.same
    ∙ put_next c.requires (queue_of c.args.self.now.capacity) (Enq c.args.value) c.args.value refl (omega (arith, less))

pub returns-clause-reply : goal.returns-clause-reply
returns-clause-reply c = (let less = c.if-state-self.false in added_reply c.requires c.args.value (omega (arith, less)))
