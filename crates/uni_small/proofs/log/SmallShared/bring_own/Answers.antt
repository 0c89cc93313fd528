use Rattle.uni_small.proofs.Vocabulary.{All, AreBuffers, Buffers, HasInvocation, List, Me, None, Returned, Seen, Some, TriesWithin, View, all_seen, ap, arith, buffer_words, due_at, held_place, image_in, inr, length, local_of, map, refl, seen_in, slice_index, slice_index_or, slice_set, spell, subst, sym, with_items_is, with_seen, ℕ, ◌*◌, ◌+◌, ◌-◌, ◌/◌, ◌∙◌, ◌≡◌, ◌≤◌}
use Rattle.std.specs.Vec.{with_items}
use Rattle.std.specs.Prelude.{Vec}
use Rattle.uni_small.proofs.Going.{writes_own, writes_direct, writes_stage, writes_of, writes_buffers}
use Rattle.uni_small.proofs.Ending.{bring_own_fails, bring_own_hits, buffers_tried}
use Rattle.uni_small.proofs.Lists.{due-set}
use Rattle.uni_small.proofs.log.SmallShared.bring_own.Goals as goal

pub fill-requires-clause-stage : goal.fill-requires-clause-stage
fill-requires-clause-stage g c =
    let sizes = c.args.self.now.setup.sizes in
    let object = (g.O.SmallObject.meaning c.args.self.now.setup.object).object in
    let room = c.args.room.now in
    let image = image_in sizes room in
    let seen = all_seen room in
    let items = with_items_is room.seen c.see_own.new.seen (c.see_own.auto.seen ∙ c.deref_mut.ensures.len) in
    let all_is : map seen_in (with_items room.seen c.see_own.new.seen).items ≡ slice_set seen c.args.seat.now.me.0.known.first (Some c.args.invocation.now)
    = ap (map seen_in) items ∙ c.see_own.ensures.seen ∙ (λ i. slice_set (map seen_in (c.deref_mut.ensures.value i)) (sym c.requires.of.first i) (Some c.args.invocation.now)) in (
      0,
      c.args.s,
      image,
      seen,
      slice_set seen c.args.seat.now.me.0.known.first (Some c.args.invocation.now),
      0,
      c.requires.stage,
      (inr (c.requires.direct, c.args.invocation.now, c.requires.wide, refl), omega arith, λ i below. absurd (omega arith)),
      (λ i below. (λ k. slice_index (spell (with_seen object image 0 (all_is k))) i)
          ∙ ap (slice_index (spell (with_seen object image 0 (slice_set seen c.args.seat.now.me.0.known.first (Some c.args.invocation.now))))) (let e : i ≡ 0 + i = omega arith in e)),
    )

pub fill-requires-clause-room : goal.fill-requires-clause-room
fill-requires-clause-room g c =
    let was = c.requires.room in
    let room = c.args.room.now in
    let items = with_items_is room.seen c.see_own.new.seen (c.see_own.auto.seen ∙ c.deref_mut.ensures.len) in
    let seen : map seen_in (with_items room.seen c.see_own.new.seen).items ≡ slice_set (all_seen room) c.args.p (Some c.args.invocation.now)
    = ap (map seen_in) items ∙ c.see_own.ensures.seen ∙ (λ i. slice_set (map seen_in (c.deref_mut.ensures.value i)) c.args.p (Some c.args.invocation.now)) in
    record {
      applied = was.applied;
      reply = was.reply;
      state = was.state;
      seen = ap (λ (xs : List Seen). length xs) items ∙ c.see_own.auto.seen ∙ ap (λ (xs : List Seen). length xs) c.deref_mut.ensures.value ∙ was.seen;
      invocations = subst (All (HasInvocation c.args.self.now.setup.sizes)) (sym items) c.see_own.ensures.room;
      saved = was.saved;
      ordered = c.with-room.ensures.ordered;
      busy = c.with-room.ensures.last c.args.self.now.setup.sizes.processes was.busy c.requires.inside;
      quiet = λ q beside.
          let both = c.with-room.ensures.beside q beside in
          ap (λ xs. due_at xs q) seen ∙ due-set (all_seen room) c.args.p q (Some c.args.invocation.now) both.1 ∙ was.quiet q both.0;
    }

pub bring_in_own-found-requires-clause-of : goal.bring_in_own-found-requires-clause-of
bring_in_own-found-requires-clause-of g c =
    writes_of c.args.seat.now.me c.fill.new.seat.me 0 (buffer_words c.args.self.now.setup.sizes) c.fill.new.own.held.items c.fill.ensures.goes c.requires.of

pub bring_in_own-found-requires-clause-direct : goal.bring_in_own-found-requires-clause-direct
bring_in_own-found-requires-clause-direct g c =
    writes_direct c.args.seat.now.me c.fill.new.seat.me 0 (buffer_words c.args.self.now.setup.sizes) c.fill.new.own.held.items c.fill.ensures.goes ∙ c.requires.direct

pub bring_in_own-found-requires-clause-room : goal.bring_in_own-found-requires-clause-room
bring_in_own-found-requires-clause-room g c =
    let same = ap (λ (xs : List Returned). length xs) (writes_own c.args.seat.now.me c.fill.new.seat.me 0 (buffer_words c.args.self.now.setup.sizes) c.fill.new.own.held.items c.fill.ensures.goes) in
    let few = c.requires.calls in omega arith

pub bring_in_own-found-requires-clause-spare : goal.bring_in_own-found-requires-clause-spare
bring_in_own-found-requires-clause-spare g c =
    let me = c.args.seat.now.me in
    let me1 = c.fill.new.seat.me in
    let own = c.args.own.now in
    let own1 = c.fill.new.own in
    let are : AreBuffers c.args.self.now.setup.sizes (local_of me1) own1 = writes_buffers me me1 0 (buffer_words c.args.self.now.setup.sizes) own1.held.items c.fill.ensures.goes c.args.self.now.setup.sizes own own1 c.requires.own c.fill.ensures.spare refl c.fill.ensures.long in
    (are.spare, are.which)

pub bring_in_own-found-requires-clause-stage : goal.bring_in_own-found-requires-clause-stage
bring_in_own-found-requires-clause-stage g c =
    let sizes = c.args.self.now.setup.sizes in
    let object = (g.O.SmallObject.meaning c.args.self.now.setup.object).object in
    let room = c.args.room.now in
    let image = image_in sizes room in
    let seen = all_seen room in
    let items = with_items_is room.seen c.see_own.new.seen (c.see_own.auto.seen ∙ c.deref_mut.ensures.len) in
    let words : c.index.result.now.invocation.items ≡ c.args.invocation.now
    = ap (λ (x : Seen). x.invocation.items) (c.index.ensures ∙ ap (λ (xs : List Seen). slice_index_or xs c.args.p c.index.result.now) (ap (λ (v : Vec Seen _). v.items) c.fill.ensures.seen ∙ items)) ∙ c.see_own.ensures.own c.index.result.now in
    let all_is : map seen_in (with_items room.seen c.see_own.new.seen).items ≡ slice_set seen c.args.seat.now.me.0.known.first (Some c.args.invocation.now)
    = ap (map seen_in) items ∙ c.see_own.ensures.seen ∙ (λ i. slice_set (map seen_in (c.deref_mut.ensures.value i)) (sym c.requires.of.first i) (Some c.args.invocation.now)) in
    let me = c.args.seat.now.me in
    let me1 = c.fill.new.seat.me in
    let first_is : me1.0.known.first ≡ me.0.known.first = ap (λ (m : Me Seen (View _)). m.0.known.first) c.fill.ensures.goes.4 in
    let own = c.args.own.now in
    let own1 = c.fill.new.own in
    let are : AreBuffers c.args.self.now.setup.sizes (local_of me1) own1 = writes_buffers me me1 0 (buffer_words c.args.self.now.setup.sizes) own1.held.items c.fill.ensures.goes c.args.self.now.setup.sizes own own1 c.requires.own c.fill.ensures.spare refl c.fill.ensures.long in (
      image,
      (
        seen,
        c.fill.ensures.goes.2,
        writes_stage me me1 0 (buffer_words sizes) own1.held.items c.fill.ensures.goes 0 c.args.s 0 image seen c.requires.stage,
        (λ i below. (λ k. slice_index (are.held k) (held_place sizes ((are.spare ∙ c.fill.ensures.spare) k) i)) ∙ c.fill.ensures.held i below ∙ (λ k. slice_index (spell (with_seen object image 0 (all_is k))) i)
            ∙ (λ k. slice_index (spell (with_seen object image 0 (slice_set seen (sym first_is k) (Some (sym words k))))) i)),
      ),
    )

pub bring_in_own-found-requires-clause-whole : goal.bring_in_own-found-requires-clause-whole
bring_in_own-found-requires-clause-whole g c =
    let room = c.args.room.now in
    let items = with_items_is room.seen c.see_own.new.seen (c.see_own.auto.seen ∙ c.deref_mut.ensures.len) in
    let words : c.index.result.now.invocation.items ≡ c.args.invocation.now
    = ap (λ (x : Seen). x.invocation.items) (c.index.ensures ∙ ap (λ (xs : List Seen). slice_index_or xs c.args.p c.index.result.now) (ap (λ (v : Vec Seen _). v.items) c.fill.ensures.seen ∙ items)) ∙ c.see_own.ensures.own c.index.result.now in
    ap (λ (ws : List ℕ). length ws) words ∙ c.requires.wide

pub returns-then-found-s-clause-ends : goal.returns-then-found-s-clause-ends
returns-then-found-s-clause-ends g c =
    let sizes = c.args.self.now.setup.sizes in
    let room = c.args.room.now in
    let items = with_items_is room.seen c.see_own.new.seen (c.see_own.auto.seen ∙ c.deref_mut.ensures.len) in
    let words : c.index.result.now.invocation.items ≡ c.args.invocation.now
    = ap (λ (x : Seen). x.invocation.items) (c.index.ensures ∙ ap (λ (xs : List Seen). slice_index_or xs c.args.p c.index.result.now) (ap (λ (v : Vec Seen _). v.items) c.fill.ensures.seen ∙ items)) ∙ c.see_own.ensures.own c.index.result.now in
    let own1 = c.fill.new.own in
    let me2 = c.bring_in_own-found.new.seat.me in
    let new = 128 * (c.args.s / 128 + 1) + (2 * c.args.p + own1.spare) in
    let spare : (local_of c.args.seat.now.me).spare ≡ own1.spare = c.requires.own.spare ∙ sym c.fill.ensures.spare in
    let few : own1.spare ≤ 1 = (let w = c.requires.own.which in let s = c.fill.ensures.spare in omega arith) in
    let ends : TriesWithin sizes (buffer_words sizes + 1) c.args.seat.now.me c.args.invocation.now None own1 me2
    = subst (λ inv. TriesWithin sizes (buffer_words sizes + 1) c.args.seat.now.me inv None own1 me2) words
    (bring_own_fails sizes (buffer_words sizes) c.args.s new c.bring_in_own-found.result c.index.result.now.invocation.items own1 c.args.seat.now.me c.fill.new.seat.me me2 c.requires.direct c.fill.ensures.goes spare c.bring_in_own-found.ensures.left c.if-found-s.true) in
    ends

pub returns-then-found-s-clause-own : goal.returns-then-found-s-clause-own
returns-then-found-s-clause-own g c =
    let sizes = c.args.self.now.setup.sizes in
    let room = c.args.room.now in
    let items = with_items_is room.seen c.see_own.new.seen (c.see_own.auto.seen ∙ c.deref_mut.ensures.len) in
    let words : c.index.result.now.invocation.items ≡ c.args.invocation.now
    = ap (λ (x : Seen). x.invocation.items) (c.index.ensures ∙ ap (λ (xs : List Seen). slice_index_or xs c.args.p c.index.result.now) (ap (λ (v : Vec Seen _). v.items) c.fill.ensures.seen ∙ items)) ∙ c.see_own.ensures.own c.index.result.now in
    let own1 = c.fill.new.own in
    let me2 = c.bring_in_own-found.new.seat.me in
    let new = 128 * (c.args.s / 128 + 1) + (2 * c.args.p + own1.spare) in
    let spare : (local_of c.args.seat.now.me).spare ≡ own1.spare = c.requires.own.spare ∙ sym c.fill.ensures.spare in
    let few : own1.spare ≤ 1 = (let w = c.requires.own.which in let s = c.fill.ensures.spare in omega arith) in
    let ends : TriesWithin sizes (buffer_words sizes + 1) c.args.seat.now.me c.args.invocation.now None own1 me2
    = subst (λ inv. TriesWithin sizes (buffer_words sizes + 1) c.args.seat.now.me inv None own1 me2) words
    (bring_own_fails sizes (buffer_words sizes) c.args.s new c.bring_in_own-found.result c.index.result.now.invocation.items own1 c.args.seat.now.me c.fill.new.seat.me me2 c.requires.direct c.fill.ensures.goes spare c.bring_in_own-found.ensures.left c.if-found-s.true) in
    buffers_tried sizes (buffer_words sizes + 1) c.args.invocation.now None own1 c.args.seat.now.me me2 ends few (c.fill.ensures.long ∙ c.requires.own.long)

pub returns-clause-ends : goal.returns-clause-ends
returns-clause-ends g c =
    let sizes = c.args.self.now.setup.sizes in
    let room = c.args.room.now in
    let items = with_items_is room.seen c.see_own.new.seen (c.see_own.auto.seen ∙ c.deref_mut.ensures.len) in
    let words : c.index.result.now.invocation.items ≡ c.args.invocation.now
    = ap (λ (x : Seen). x.invocation.items) (c.index.ensures ∙ ap (λ (xs : List Seen). slice_index_or xs c.args.p c.index.result.now) (ap (λ (v : Vec Seen _). v.items) c.fill.ensures.seen ∙ items)) ∙ c.see_own.ensures.own c.index.result.now in
    let own1 = c.fill.new.own in
    let me2 = c.bring_in_own-found.new.seat.me in
    let new = 128 * (c.args.s / 128 + 1) + (2 * c.args.p + own1.spare) in
    let spare : (local_of c.args.seat.now.me).spare ≡ own1.spare = c.requires.own.spare ∙ sym c.fill.ensures.spare in
    let few : own1.spare ≤ 1 = (let w = c.requires.own.which in let s = c.fill.ensures.spare in omega arith) in
    let own2 : Buffers = record own1 { spare = 1 - own1.spare } in
    let ends : TriesWithin sizes (buffer_words sizes + 1) c.args.seat.now.me c.args.invocation.now (Some new) own2 me2
    = subst (λ inv. TriesWithin sizes (buffer_words sizes + 1) c.args.seat.now.me inv (Some new) own2 me2) words
    (bring_own_hits sizes (buffer_words sizes) c.args.s new c.bring_in_own-found.result c.index.result.now.invocation.items own1 c.args.seat.now.me c.fill.new.seat.me me2 c.requires.direct c.fill.ensures.goes spare c.bring_in_own-found.ensures.left c.if-found-s.false (let i = c.requires.inside in let f = c.args.self.now.few.1 in omega arith)) in
    ends

pub returns-clause-own : goal.returns-clause-own
returns-clause-own g c =
    let sizes = c.args.self.now.setup.sizes in
    let room = c.args.room.now in
    let items = with_items_is room.seen c.see_own.new.seen (c.see_own.auto.seen ∙ c.deref_mut.ensures.len) in
    let words : c.index.result.now.invocation.items ≡ c.args.invocation.now
    = ap (λ (x : Seen). x.invocation.items) (c.index.ensures ∙ ap (λ (xs : List Seen). slice_index_or xs c.args.p c.index.result.now) (ap (λ (v : Vec Seen _). v.items) c.fill.ensures.seen ∙ items)) ∙ c.see_own.ensures.own c.index.result.now in
    let own1 = c.fill.new.own in
    let me2 = c.bring_in_own-found.new.seat.me in
    let new = 128 * (c.args.s / 128 + 1) + (2 * c.args.p + own1.spare) in
    let spare : (local_of c.args.seat.now.me).spare ≡ own1.spare = c.requires.own.spare ∙ sym c.fill.ensures.spare in
    let few : own1.spare ≤ 1 = (let w = c.requires.own.which in let s = c.fill.ensures.spare in omega arith) in
    let own2 : Buffers = record own1 { spare = 1 - own1.spare } in
    let ends : TriesWithin sizes (buffer_words sizes + 1) c.args.seat.now.me c.args.invocation.now (Some new) own2 me2
    = subst (λ inv. TriesWithin sizes (buffer_words sizes + 1) c.args.seat.now.me inv (Some new) own2 me2) words
    (bring_own_hits sizes (buffer_words sizes) c.args.s new c.bring_in_own-found.result c.index.result.now.invocation.items own1 c.args.seat.now.me c.fill.new.seat.me me2 c.requires.direct c.fill.ensures.goes spare c.bring_in_own-found.ensures.left c.if-found-s.false (let i = c.requires.inside in let f = c.args.self.now.few.1 in omega arith)) in
    buffers_tried sizes (buffer_words sizes + 1) c.args.invocation.now (Some new) own2 c.args.seat.now.me me2 ends (omega arith) (c.fill.ensures.long ∙ c.requires.own.long)

pub returns-clause-kept : goal.returns-clause-kept
returns-clause-kept g c = record { copy = c.fill.ensures.kept.copy; ordered = c.fill.ensures.kept.ordered; inside = c.fill.ensures.kept.inside; applied = c.fill.ensures.kept.applied; reply = c.fill.ensures.kept.reply; state = c.fill.ensures.kept.state }
