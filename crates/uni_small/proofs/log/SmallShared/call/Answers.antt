use Rattle.uni_small.proofs.Vocabulary.{Option, TriesWithin, attempt_steps, subst, ℕ}
use Rattle.uni_small.proofs.Ending.{directly_ends, announced_ends}
use Rattle.uni_small.proofs.log.SmallShared.call.Goals as goal

pub returns-in-Some-clause-ends : goal.returns-in-Some-clause-ends
returns-in-Some-clause-ends g c =
    let sizes = c.args.self.now.setup.sizes in
    directly_ends sizes c.args.invocation.now c.load_reply.new.reply c.load_reply.result c.args.seat.now.me c.attempt_directly.new.seat.me c.load_reply.new.seat.me c.in-Some.s c.attempt_directly.new.own
    (subst (λ (r : Option ℕ). TriesWithin sizes (attempt_steps sizes) c.args.seat.now.me c.args.invocation.now r c.attempt_directly.new.own c.attempt_directly.new.seat.me) c.in-Some.is c.attempt_directly.ensures.ends)
    c.load_reply.ensures.left c.load_reply.ensures.version c.load_reply.ensures.later

pub returns-clause-ends : goal.returns-clause-ends
returns-clause-ends g c =
    let sizes = c.args.self.now.setup.sizes in
    announced_ends sizes c.args.invocation.now c.call_announced.new.reply c.call_announced.result c.args.seat.now.me c.attempt_directly.new.seat.me c.call_announced.new.seat.me c.attempt_directly.new.own c.call_announced.new.own
    (subst (λ (r : Option ℕ). TriesWithin sizes (attempt_steps sizes) c.args.seat.now.me c.args.invocation.now r c.attempt_directly.new.own c.attempt_directly.new.seat.me) c.in_default.is c.attempt_directly.ensures.ends)
    c.call_announced.ensures.ends
