use Rattle.program_object.proofs.Vocabulary.{Machine, Set, ap, begun, length, machine_of}
use Rattle.program_object.proofs.Ending.{ended_by, stepped_by}
use Rattle.program_object.proofs.step.run.Goals as goal

pub returns-then-at-code-clause-state : goal.returns-then-at-code-clause-state
returns-then-at-code-clause-state c =
    ap (λ (m : Machine). m.state)
    (ended_by c.args.code.now c.args.invocation.now (begun c.args.state.now (length c.args.reply.now)) (machine_of c.loop-taken.frame c.loop-taken.state c.loop-taken.reply)
    c.loop-taken.taken c.args.most c.loop-taken.invariant c.if-at-code.true c.loop-taken-test.true)

pub returns-then-at-code-clause-reply : goal.returns-then-at-code-clause-reply
returns-then-at-code-clause-reply c =
    ap (λ (m : Machine). m.reply)
    (ended_by c.args.code.now c.args.invocation.now (begun c.args.state.now (length c.args.reply.now)) (machine_of c.loop-taken.frame c.loop-taken.state c.loop-taken.reply)
    c.loop-taken.taken c.args.most c.loop-taken.invariant c.if-at-code.true c.loop-taken-test.true)

pub loop-taken-preserved : goal.loop-taken-preserved
loop-taken-preserved c =
    stepped_by c.args.code.now c.args.invocation.now (begun c.args.state.now (length c.args.reply.now)) (machine_of c.loop-taken.frame c.loop-taken.state c.loop-taken.reply)
    (machine_of c.step.new.self c.step.new.state c.step.new.reply) c.loop-taken.taken (Set 0 0) c.loop-taken.invariant c.if-at-code.false c.step.ensures
