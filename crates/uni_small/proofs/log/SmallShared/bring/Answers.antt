use Rattle.uni_small.proofs.Vocabulary.{AreBuffers, None, Some, all_seen, ap, arith, buffer_words, held_place, image_in, inl, local_of, refl, slice_index, spell, sym, with_seen, ◌*◌, ◌+◌, ◌-◌, ◌/◌, ◌∙◌, ◌≡◌, ◌≤◌}
use Rattle.uni_small.proofs.Going.{writes_direct, writes_stage, writes_of, writes_buffers}
use Rattle.uni_small.proofs.Ending.{bring_fails, bring_hits, buffers_at_end}
use Rattle.uni_small.proofs.log.SmallShared.bring.Goals as goal

pub fill-requires-clause-stage : goal.fill-requires-clause-stage
fill-requires-clause-stage g c =
    let sizes = c.args.self.now.setup.sizes in
    let object = (g.O.SmallObject.meaning c.args.self.now.setup.object).object in
    let room = c.args.room.now in
    let image = image_in sizes room in
    let seen = all_seen room in (
      c.args.tries,
      c.args.s,
      image,
      seen,
      seen,
      0,
      c.requires.stage,
      (inl (c.requires.announced, refl), omega arith, λ i below. absurd (omega arith)),
      (λ i below. ap (slice_index (spell (with_seen object image 0 seen))) (let e : i ≡ 0 + i = omega arith in e)),
    )

pub bring_in-found-requires-clause-of : goal.bring_in-found-requires-clause-of
bring_in-found-requires-clause-of g c =
    writes_of c.args.seat.now.me c.fill.new.seat.me 0 (buffer_words c.args.self.now.setup.sizes) c.fill.new.own.held.items c.fill.ensures.goes c.requires.of

pub bring_in-found-requires-clause-announced : goal.bring_in-found-requires-clause-announced
bring_in-found-requires-clause-announced g c =
    writes_direct c.args.seat.now.me c.fill.new.seat.me 0 (buffer_words c.args.self.now.setup.sizes) c.fill.new.own.held.items c.fill.ensures.goes ∙ c.requires.announced

pub bring_in-found-requires-clause-spare : goal.bring_in-found-requires-clause-spare
bring_in-found-requires-clause-spare g c =
    let me = c.args.seat.now.me in
    let me1 = c.fill.new.seat.me in
    let own = c.args.own.now in
    let own1 = c.fill.new.own in
    let are : AreBuffers c.args.self.now.setup.sizes (local_of me1) own1 = writes_buffers me me1 0 (buffer_words c.args.self.now.setup.sizes) own1.held.items c.fill.ensures.goes c.args.self.now.setup.sizes own own1 c.requires.own c.fill.ensures.spare refl c.fill.ensures.long in
    (are.spare, are.which)

pub bring_in-found-requires-clause-stage : goal.bring_in-found-requires-clause-stage
bring_in-found-requires-clause-stage g c =
    let sizes = c.args.self.now.setup.sizes in
    let object = (g.O.SmallObject.meaning c.args.self.now.setup.object).object in
    let room = c.args.room.now in
    let image = image_in sizes room in
    let seen = all_seen room in
    let me = c.args.seat.now.me in
    let me1 = c.fill.new.seat.me in
    let own = c.args.own.now in
    let own1 = c.fill.new.own in
    let are : AreBuffers c.args.self.now.setup.sizes (local_of me1) own1 = writes_buffers me me1 0 (buffer_words c.args.self.now.setup.sizes) own1.held.items c.fill.ensures.goes c.args.self.now.setup.sizes own own1 c.requires.own c.fill.ensures.spare refl c.fill.ensures.long in (
      image,
      (
        seen,
        c.fill.ensures.goes.2,
        writes_stage me me1 0 (buffer_words sizes) own1.held.items c.fill.ensures.goes c.args.tries c.args.s 0 image seen c.requires.stage,
        (λ i below. (λ k. slice_index (are.held k) (held_place sizes ((are.spare ∙ c.fill.ensures.spare) k) i)) ∙ c.fill.ensures.held i below),
      ),
    )

pub returns-then-found-s-clause-ends : goal.returns-then-found-s-clause-ends
returns-then-found-s-clause-ends g c =
    let sizes = c.args.self.now.setup.sizes in
    let own1 = c.fill.new.own in
    let spare : (local_of c.args.seat.now.me).spare ≡ own1.spare = c.requires.own.spare ∙ sym c.fill.ensures.spare in
    let few : own1.spare ≤ 1 = (let w = c.requires.own.which in let s = c.fill.ensures.spare in omega arith) in
    bring_fails sizes (buffer_words sizes) c.args.tries c.args.s (128 * (c.args.s / 128 + 1) + (2 * c.args.p + own1.spare)) c.bring_in-found.result own1 c.args.seat.now.me c.fill.new.seat.me c.bring_in-found.new.seat.me c.fill.ensures.goes spare c.bring_in-found.ensures.left c.if-found-s.true

pub returns-then-found-s-clause-own : goal.returns-then-found-s-clause-own
returns-then-found-s-clause-own g c =
    let sizes = c.args.self.now.setup.sizes in
    let own1 = c.fill.new.own in
    let spare : (local_of c.args.seat.now.me).spare ≡ own1.spare = c.requires.own.spare ∙ sym c.fill.ensures.spare in
    let few : own1.spare ≤ 1 = (let w = c.requires.own.which in let s = c.fill.ensures.spare in omega arith) in
    buffers_at_end sizes (buffer_words sizes + 1) c.args.tries None own1 c.args.seat.now.me c.bring_in-found.new.seat.me (bring_fails sizes (buffer_words sizes) c.args.tries c.args.s (128 * (c.args.s / 128 + 1) + (2 * c.args.p + own1.spare)) c.bring_in-found.result own1 c.args.seat.now.me c.fill.new.seat.me c.bring_in-found.new.seat.me c.fill.ensures.goes spare c.bring_in-found.ensures.left c.if-found-s.true) few (c.fill.ensures.long ∙ c.requires.own.long)

pub returns-clause-ends : goal.returns-clause-ends
returns-clause-ends g c =
    let sizes = c.args.self.now.setup.sizes in
    let own1 = c.fill.new.own in
    let spare : (local_of c.args.seat.now.me).spare ≡ own1.spare = c.requires.own.spare ∙ sym c.fill.ensures.spare in
    let few : own1.spare ≤ 1 = (let w = c.requires.own.which in let s = c.fill.ensures.spare in omega arith) in
    bring_hits sizes (buffer_words sizes) c.args.tries c.args.s (128 * (c.args.s / 128 + 1) + (2 * c.args.p + own1.spare)) c.bring_in-found.result own1 c.args.seat.now.me c.fill.new.seat.me c.bring_in-found.new.seat.me c.fill.ensures.goes spare c.bring_in-found.ensures.left c.if-found-s.false (let i = c.requires.inside in let f = c.args.self.now.few.1 in omega arith)

pub returns-clause-own : goal.returns-clause-own
returns-clause-own g c =
    let sizes = c.args.self.now.setup.sizes in
    let own1 = c.fill.new.own in
    let spare : (local_of c.args.seat.now.me).spare ≡ own1.spare = c.requires.own.spare ∙ sym c.fill.ensures.spare in
    let few : own1.spare ≤ 1 = (let w = c.requires.own.which in let s = c.fill.ensures.spare in omega arith) in
    buffers_at_end sizes (buffer_words sizes + 1) c.args.tries (Some (128 * (c.args.s / 128 + 1) + (2 * c.args.p + own1.spare))) (record own1 { spare = 1 - own1.spare }) c.args.seat.now.me c.bring_in-found.new.seat.me (bring_hits sizes (buffer_words sizes) c.args.tries c.args.s (128 * (c.args.s / 128 + 1) + (2 * c.args.p + own1.spare)) c.bring_in-found.result own1 c.args.seat.now.me c.fill.new.seat.me c.bring_in-found.new.seat.me c.fill.ensures.goes spare c.bring_in-found.ensures.left c.if-found-s.false (let i = c.requires.inside in let f = c.args.self.now.few.1 in omega arith)) (omega arith) (c.fill.ensures.long ∙ c.requires.own.long)

pub returns-clause-kept : goal.returns-clause-kept
returns-clause-kept g c = record { copy = c.fill.ensures.kept.copy; ordered = c.fill.ensures.kept.ordered; inside = c.fill.ensures.kept.inside; applied = c.fill.ensures.kept.applied; reply = c.fill.ensures.kept.reply; state = c.fill.ensures.kept.state }
