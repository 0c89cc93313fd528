use Rattle.uni_any.proofs.Vocabulary.{View, ap, arith, refl, subst, sym, ◌<◌, ◌∙◌, ◌≤◌}
use Rattle.uni_any.proofs.Looks.{looks_first, looks_next, looks_reading}
use Rattle.uni_any.proofs.seat.AnySeat.look.Goals as goal

pub loop-r-init : goal.loop-r-init
loop-r-init g c =
    let was = c.requires.kept in
    let pend = c.requires.pending in
    let h = c.start-word.ensures.told pend.0 pend.1.0 pend.1.1 in (
      record {
        place = c.start-word.ensures.place.0;
        number = c.start-word.ensures.place.1 ∙ was.number;
        inside = was.inside;
        last = ap (λ (v : View _ _ _ _). v.known.local.last) h.2 ∙ was.last;
        seen = ap (λ (v : View _ _ _ _). v.known.local.seen) h.2 ∙ was.seen;
        long = was.long;
        named = was.named;
      },
      ap (λ k. k.processes) c.key.ensures,
      (refl, refl, refl, refl),
      (λ inv tries p. looks_first g.O.SeqObject.sequential c.args.self.now.party.seat.me.0.client c.start-word.new.party.seat.me.0.client inv tries c.start-word.result (subst (λ k. 1 ≤ k) (sym was.place.processes) c.args.shared.now.few.0) p c.start-word.ensures.told),
      (let s = c.start-word.ensures.one_step in omega arith),
    )

pub look_at-requires-clause-kept : goal.look_at-requires-clause-kept
look_at-requires-clause-kept g c = c.loop-r.invariant.0

pub look_at-requires-clause-reading : goal.look_at-requires-clause-reading
look_at-requires-clause-reading g c =
    let pend = c.requires.pending in
    let below : c.loop-r.r < c.args.self.now.party.seat.me.0.client.known.processes = subst (λ k. c.loop-r.r < k) (c.loop-r.invariant.1 ∙ sym c.requires.kept.place.processes) c.loop-r-test.true in
    (pend.0, (pend.1.0, looks_reading g.O.SeqObject.sequential c.args.self.now.party.seat.me.0.client c.loop-r.self.party.seat.me.0.client pend.0 pend.1.0 c.start-word.result c.loop-r.r (c.loop-r.invariant.3 pend.0 pend.1.0 pend.1.1) below))

pub loop-r-preserved : goal.loop-r-preserved
loop-r-preserved g c =
    let i = c.loop-r.invariant in
    let same = c.look_at.ensures.same in
    let below : c.loop-r.r < c.args.self.now.party.seat.me.0.client.known.processes = subst (λ k. c.loop-r.r < k) (i.1 ∙ sym c.requires.kept.place.processes) c.loop-r-test.true in (
      c.look_at.ensures.kept,
      i.1,
      (same.0 ∙ i.2.0, same.1 ∙ i.2.1, same.2 ∙ i.2.2, same.3 ∙ i.2.3),
      (λ inv tries p. looks_next g.O.SeqObject.sequential c.args.self.now.party.seat.me.0.client c.loop-r.self.party.seat.me.0.client c.look_at.new.self.party.seat.me.0.client inv tries c.start-word.result c.loop-r.r (i.3 inv tries p) below c.look_at.ensures.learned.0 c.look_at.ensures.learned.1),
      (let s = c.look_at.ensures.few_steps in let t = i.4 in omega arith),
    )

pub returns-clause-kept : goal.returns-clause-kept
returns-clause-kept g c = c.loop-r.invariant.0

pub returns-clause-same : goal.returns-clause-same
returns-clause-same g c = c.loop-r.invariant.2

pub returns-clause-looked : goal.returns-clause-looked
returns-clause-looked g c inv tries p =
    let so = c.loop-r.invariant.3 inv tries p in
    so.done (let a = so.most in let b = c.requires.kept.place.processes in let d = c.loop-r.invariant.1 in let e = c.loop-r-test.false in omega arith)

pub returns-clause-few_steps : goal.returns-clause-few_steps
returns-clause-few_steps g c =
    let pend = c.requires.pending in
    let so = c.loop-r.invariant.3 pend.0 pend.1.0 pend.1.1 in
    let most = so.most in
    let b = c.requires.kept.place.processes in
    let t = c.loop-r.invariant.4 in
    omega arith
