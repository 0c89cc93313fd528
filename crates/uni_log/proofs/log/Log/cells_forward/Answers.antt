use Rattle.uni_log.proofs.Vocabulary.{Anchor, append-nil, arith, chain, length, length-append, map-append, name_in, refl, seq_of, subst, sym, world_of, ◌+◌, ◌-◌, ◌≡◌}
use Rattle.uni_log.proofs.Walk.{IsAlong, IsAlong-anchor, along-end, along-next, walked-further}
use Rattle.uni_log.proofs.log.Log.cells_forward.Goals as goal

pub loop-next-init : goal.loop-next-init
loop-next-init g c =
    rw (c.in_ok-push.ensures.items, c.new-forward.ensures.items, c.anchor-at.ensures) (record {
      some = omega arith;
      there = c.shape.ensures.anchor;
      rest = chain (world_of c.self.inside.world.now);
      along = IsAlong-anchor (world_of c.self.inside.world.now) (g.O.SeqObject.sequential c.self.inside.world.now.object)
          c.shape.ensures.sound c.shape.ensures.fits _ (omega arith);
      whole = refl;
    })

pub after-requires : goal.after-requires
after-requires g c = c.loop-next.invariant.there

pub loop-next-preserved : goal.loop-next-preserved
loop-next-preserved g c =
    let on = along-next _ _ _ _ c.loop-next.invariant.along _ (sym c.in-Some.ensures.link) in
    let some = c.loop-next.invariant.some in
    let longer : length c.push-in-Some.new.self.items ≡ length c.loop-next.forward.items + 1 = rw c.in_ok-push-2.ensures.items (length-append _ _) in
    let seq : length c.loop-next.forward.items - 1 + seq_of (world_of c.self.inside.world.now).memory Anchor + 1 ≡ length c.push-in-Some.new.self.items - 1 + seq_of (world_of c.self.inside.world.now).memory Anchor = omega arith in
    record {
      some = omega arith;
      there = c.in-Some.ensures.there;
      rest = on.0;
      along = subst (λ k. IsAlong (world_of c.self.inside.world.now) (name_in (world_of c.self.inside.world.now) c.in-Some.next) k on.0) seq on.2;
      whole = rw (c.in_ok-push-2.ensures.items, map-append) (walked-further _ c.loop-next.invariant.rest on.0 (name_in (world_of c.self.inside.world.now) c.in-Some.next) on.1 c.loop-next.invariant.whole);
    }

pub returns : goal.returns
returns g c =
    let end = along-end _ _ _ _ c.loop-next.invariant.along (sym c.in_default.ensures.link) in
    let whole = rw (end, append-nil) at c.loop-next.invariant.whole in
    rw (← c.self.view_is) whole
