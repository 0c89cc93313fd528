use Rattle.uni_small.proofs.Vocabulary.{EndsWithin, GoesBy, Idle, List, Me, Option, Seen, Sizes, View, attempt_steps, length, subst, ℕ, ◌∙◌, ◌≡◌}
use Rattle.uni_small.proofs.Going.{of_after, stage_after}
use Rattle.uni_small.proofs.Ending.{announced_after, ended_direct, ends_first, ends_second, ends_last}
use Rattle.uni_small.proofs.log.SmallShared.call_announced.Goals as goal

-- all words of an invocation are stored
stored_whole : {O : Type 0} (sizes : Sizes) (me me1 : Me Seen (View O)) (inv : List ℕ) → length inv ≡ sizes.invocation → GoesBy me (length inv) (Idle inv) me1 → GoesBy me sizes.invocation (Idle inv) me1
stored_whole sizes me me1 inv long goes = subst (λ k. GoesBy me k (Idle inv) me1) long goes

pub announce-requires-clause-of : goal.announce-requires-clause-of
announce-requires-clause-of g c = of_after c.args.seat.now.me c.store_argument.new.seat.me (length c.args.invocation.now) (Idle c.args.invocation.now) c.store_argument.ensures.goes c.requires.of

pub announce-requires-clause-stage : goal.announce-requires-clause-stage
announce-requires-clause-stage g c = (
  c.args.invocation.now,
  stage_after c.args.seat.now.me c.store_argument.new.seat.me (length c.args.invocation.now) (Idle c.args.invocation.now) c.store_argument.ensures.goes,
  c.requires.wide.0,
)

pub attempt-requires-clause-announced : goal.attempt-requires-clause-announced
attempt-requires-clause-announced g c = announced_after c.store_argument.new.seat.me c.announce.new.seat.me c.args.invocation.now
    (c.announce.ensures.left c.args.invocation.now (stage_after c.args.seat.now.me c.store_argument.new.seat.me (length c.args.invocation.now) (Idle c.args.invocation.now) c.store_argument.ensures.goes))

pub attempt-requires-2-clause-announced : goal.attempt-requires-2-clause-announced
attempt-requires-2-clause-announced g c =
    ended_direct c.args.self.now.setup.sizes (attempt_steps c.args.self.now.setup.sizes) 0 c.announce.new.seat.me c.attempt.result c.attempt.new.own c.attempt.new.seat.me c.attempt.ensures.ends
    ∙ announced_after c.store_argument.new.seat.me c.announce.new.seat.me c.args.invocation.now
    (c.announce.ensures.left c.args.invocation.now (stage_after c.args.seat.now.me c.store_argument.new.seat.me (length c.args.invocation.now) (Idle c.args.invocation.now) c.store_argument.ensures.goes))

pub turn-s-requires-clause-announced : goal.turn-s-requires-clause-announced
turn-s-requires-clause-announced g c =
    ended_direct c.args.self.now.setup.sizes (attempt_steps c.args.self.now.setup.sizes) 1 c.attempt.new.seat.me c.attempt-2.result c.attempt-2.new.own c.attempt-2.new.seat.me c.attempt-2.ensures.ends
    ∙ ended_direct c.args.self.now.setup.sizes (attempt_steps c.args.self.now.setup.sizes) 0 c.announce.new.seat.me c.attempt.result c.attempt.new.own c.attempt.new.seat.me c.attempt.ensures.ends
    ∙ announced_after c.store_argument.new.seat.me c.announce.new.seat.me c.args.invocation.now
    (c.announce.ensures.left c.args.invocation.now (stage_after c.args.seat.now.me c.store_argument.new.seat.me (length c.args.invocation.now) (Idle c.args.invocation.now) c.store_argument.ensures.goes))

pub returns-in-Some-clause-ends : goal.returns-in-Some-clause-ends
returns-in-Some-clause-ends g c =
    let sizes = c.args.self.now.setup.sizes in
    let me2 = c.announce.new.seat.me in
    ends_first sizes c.args.invocation.now c.load_reply.new.reply c.load_reply.result c.args.seat.now.me c.store_argument.new.seat.me me2 (stored_whole sizes c.args.seat.now.me c.store_argument.new.seat.me c.args.invocation.now c.requires.wide.0 c.store_argument.ensures.goes)
    (c.announce.ensures.left c.args.invocation.now (stage_after c.args.seat.now.me c.store_argument.new.seat.me (length c.args.invocation.now) (Idle c.args.invocation.now) c.store_argument.ensures.goes))
    c.in-Some.s c.attempt.new.own c.attempt.new.seat.me c.load_reply.new.seat.me
    (subst (λ (r : Option ℕ). EndsWithin sizes (attempt_steps sizes) 0 me2 r c.attempt.new.own c.attempt.new.seat.me) c.in-Some.is c.attempt.ensures.ends) (c.load_reply.ensures.left, c.load_reply.ensures.version, c.load_reply.ensures.later)

pub returns-in-Some-attempt-clause-ends : goal.returns-in-Some-attempt-clause-ends
returns-in-Some-attempt-clause-ends g c =
    let sizes = c.args.self.now.setup.sizes in
    let me2 = c.announce.new.seat.me in
    ends_second sizes c.args.invocation.now c.load_reply-in-Some-attempt.new.reply c.load_reply-in-Some-attempt.result c.args.seat.now.me c.store_argument.new.seat.me me2 (stored_whole sizes c.args.seat.now.me c.store_argument.new.seat.me c.args.invocation.now c.requires.wide.0 c.store_argument.ensures.goes)
    (c.announce.ensures.left c.args.invocation.now (stage_after c.args.seat.now.me c.store_argument.new.seat.me (length c.args.invocation.now) (Idle c.args.invocation.now) c.store_argument.ensures.goes))
    c.in-Some-attempt.s c.attempt.new.own c.attempt-2.new.own c.attempt.new.seat.me c.attempt-2.new.seat.me c.load_reply-in-Some-attempt.new.seat.me
    (subst (λ (r : Option ℕ). EndsWithin sizes (attempt_steps sizes) 0 me2 r c.attempt.new.own c.attempt.new.seat.me) c.in_default.is c.attempt.ensures.ends)
    (subst (λ (r : Option ℕ). EndsWithin sizes (attempt_steps sizes) 1 c.attempt.new.seat.me r c.attempt-2.new.own c.attempt-2.new.seat.me) c.in-Some-attempt.is c.attempt-2.ensures.ends) (c.load_reply-in-Some-attempt.ensures.left, c.load_reply-in-Some-attempt.ensures.version, c.load_reply-in-Some-attempt.ensures.later)

pub returns-clause-ends : goal.returns-clause-ends
returns-clause-ends g c =
    let sizes = c.args.self.now.setup.sizes in
    let me2 = c.announce.new.seat.me in
    ends_last sizes c.args.invocation.now c.load_reply-2.new.reply c.load_reply-2.result c.args.seat.now.me c.store_argument.new.seat.me me2 (stored_whole sizes c.args.seat.now.me c.store_argument.new.seat.me c.args.invocation.now c.requires.wide.0 c.store_argument.ensures.goes)
    (c.announce.ensures.left c.args.invocation.now (stage_after c.args.seat.now.me c.store_argument.new.seat.me (length c.args.invocation.now) (Idle c.args.invocation.now) c.store_argument.ensures.goes))
    c.turn-s.result c.attempt.new.own c.attempt-2.new.own c.attempt.new.seat.me c.attempt-2.new.seat.me c.turn-s.new.seat.me c.load_reply-2.new.seat.me
    (subst (λ (r : Option ℕ). EndsWithin sizes (attempt_steps sizes) 0 me2 r c.attempt.new.own c.attempt.new.seat.me) c.in_default.is c.attempt.ensures.ends)
    (subst (λ (r : Option ℕ). EndsWithin sizes (attempt_steps sizes) 1 c.attempt.new.seat.me r c.attempt-2.new.own c.attempt-2.new.seat.me) c.in_default-attempt.is c.attempt-2.ensures.ends) c.turn-s.ensures.left (c.load_reply-2.ensures.left, c.load_reply-2.ensures.version, c.load_reply-2.ensures.later)
