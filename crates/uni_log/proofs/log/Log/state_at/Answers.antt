use Rattle.uni_log.proofs.Vocabulary.{Anchor, ap, arith, chain, name_in, refl, slice_get, subst, sym, world_of, ◌+◌, ◌∷◌, ◌≡◌}
use Rattle.uni_log.proofs.Walk.{IsAlong, IsAlong-anchor, along-end, along-next}
use Rattle.uni_log.proofs.States.{folded_behind, place_past, place_at, place_further}
use Rattle.uni_log.proofs.log.Log.state_at.Goals as goal

pub loop-init : goal.loop-init
loop-init g c =
    rw c.anchor-at.ensures (record {
      there = c.shape.ensures.anchor;
      rest = chain (world_of c.self.inside.world.now);
      along = IsAlong-anchor (world_of c.self.inside.world.now) (g.O.SeqObject.sequential c.self.inside.world.now.object)
          c.shape.ensures.sound c.shape.ensures.fits _ (omega arith);
      whole = λ j. let same : 0 + j ≡ j = omega arith in ap (slice_get (Anchor ∷ chain (world_of c.self.inside.world.now))) same;
    })

pub after-requires : goal.after-requires
after-requires g c = c.loop.invariant.there

pub returns-in_default-clause-settled : goal.returns-in_default-clause-settled
returns-in_default-clause-settled g c =
    let end = along-end _ _ _ _ c.loop.invariant.along (sym c.in_default.ensures.link) in
    rw (← c.self.view_is) (rw (place_past (Anchor ∷ chain (world_of c.self.inside.world.now)) c.loop.invariant.rest _ c.loop.counter c.args.place c.loop.invariant.whole end c.loop-test.true) refl)

pub loop-preserved : goal.loop-preserved
loop-preserved g c =
    let on = along-next _ _ _ _ c.loop.invariant.along _ (sym c.in-Some.ensures.link) in
    record {
      there = c.in-Some.ensures.there;
      rest = on.0;
      along = subst (λ k. IsAlong (world_of c.self.inside.world.now) (name_in (world_of c.self.inside.world.now) c.in-Some.next) k on.0) (omega arith) on.2;
      whole = place_further (Anchor ∷ chain (world_of c.self.inside.world.now)) c.loop.invariant.rest on.0 _ _ c.loop.counter c.loop.invariant.whole on.1;
    }

pub returns-clause-settled : goal.returns-clause-settled
returns-clause-settled g c =
    let there = place_at (Anchor ∷ chain (world_of c.self.inside.world.now)) c.loop.invariant.rest _ c.loop.counter c.args.place c.loop.invariant.whole (omega arith) in
    rw (← c.self.view_is) (rw there c.state_in.ensures)

pub returns-clause-folded : goal.returns-clause-folded
returns-clause-folded g c =
    let there = place_at (Anchor ∷ chain (world_of c.self.inside.world.now)) c.loop.invariant.rest _ c.loop.counter c.args.place c.loop.invariant.whole (omega arith) in
    rw (← c.self.view_is) (folded_behind (g.O.SeqObject.sequential c.self.inside.world.now.object) _ c.shape.ensures.sound c.args.place c.state_in.result
    (rw there c.state_in.ensures))
