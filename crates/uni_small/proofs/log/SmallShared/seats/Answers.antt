use Rattle.uni_small.proofs.Vocabulary.{AreBuffers, AreFirstSeats, Me, Rule, Seen, Splits, View, ap, arith, first_alone, others, refl, rules, subst, sym, ◌+◌, ◌-◌, ◌∙◌, ◌≡◌}
use Rattle.uni_small.proofs.Seating.{all_own, one_more}
use Rattle.uni_small.proofs.Kept.{kept_afresh}
use Rattle.uni_small.proofs.Splitting.{splits}
use Rattle.uni_small.proofs.log.SmallShared.seats.Goals as goal

pub split_seat-seat-requires : goal.split_seat-seat-requires
split_seat-seat-requires g c =
    let shared = c.args.self.now in
    let v = c.loop-p.rest.me.0 in
    let count : v.known.count ≡ shared.setup.sizes.processes - c.loop-p.p = ap (λ (m : Me Seen (View _)). m.0.known.count) c.loop-p.invariant.1 in (
      c.loop-p.invariant.0,
      (let a = shared.sized in omega arith),
      subst (λ key. Splits (Rule g.O.SmallObject.meaning key) c.loop-p.rest.id v (others v) (first_alone v)) (sym shared.same)
          (splits g.O.SmallObject.meaning shared.setup.object shared.setup.sizes c.loop-p.rest.id v (let t = c.loop-p-test.true in omega arith)),
    )

pub loop-p-preserved : goal.loop-p-preserved
loop-p-preserved g c = (
  search rules,
  search rules,
  one_more c.args.self.now c.loop-p.p c.loop-p.seats.items c.push.new.self.items _ c.loop-p.invariant.2 c.in_ok-push.ensures.items (search rules) (search rules) (search rules) (search rules) refl (search rules)
      (subst (λ l. AreBuffers c.args.self.now.setup.sizes l c.in_ok-own.own)
      (sym (ap (λ (m : Me Seen (View _)). m.0.known.local) c.split_seat-seat.ensures.4 ∙ ap (λ (m : Me Seen (View _)). m.0.known.local) c.loop-p.invariant.1)) c.in_ok-own.ensures.held)
      (kept_afresh c.args.self.now.setup.sizes c.in_ok-own.own c.in_ok-room.room c.in_ok-room.ensures.of c.in_ok-own.ensures.apart c.args.self.now.few)
      refl (search rules) refl (search rules) (search rules),
)

pub returns-clause-first : goal.returns-clause-first
returns-clause-first g c =
    let whole : c.loop-p.p + 1 ≡ c.args.self.now.setup.sizes.processes = (let t = c.loop-p-test.false in let a = c.loop-p.auto.p-end in let f = c.args.self.now.few.0 in omega arith) in
    subst (λ k. AreFirstSeats c.args.self.now k c.push-2.new.self.items) whole
    (one_more c.args.self.now c.loop-p.p c.loop-p.seats.items c.push-2.new.self.items _ c.loop-p.invariant.2 c.in_ok-push-2.ensures.items (search rules) (search rules) (search rules) (search rules) (search rules) (search rules)
    (subst (λ l. AreBuffers c.args.self.now.setup.sizes l c.in_ok-own-2.own) (sym (ap (λ (m : Me Seen (View _)). m.0.known.local) c.loop-p.invariant.1)) c.in_ok-own-2.ensures.held)
    (kept_afresh c.args.self.now.setup.sizes c.in_ok-own-2.own c.in_ok-room-2.room c.in_ok-room-2.ensures.of c.in_ok-own-2.ensures.apart c.args.self.now.few)
    refl (search rules) refl (search rules) (search rules))

pub returns-clause-own : goal.returns-clause-own
returns-clause-own g c = all_own c.args.self.now c.args.self.now.setup.sizes.processes c.push-2.new.self.items (returns-clause-first g c)
