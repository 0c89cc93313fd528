use Rattle.uni_log.proofs.Vocabulary.{Of, arith, chain, name_eq, name_in, subst, sym, world_of}
use Rattle.std.proofs.lemmas.Iterator.Adapters.{position_from-zero}
use Rattle.uni_log.proofs.Walk.{IsAlong, IsAlong-anchor, along-end, along-next}
use Rattle.uni_log.proofs.log.Log.place_of.Goals as goal

pub loop-next-init : goal.loop-next-init
loop-next-init g c =
    rw c.anchor-at.ensures (record {
      there = c.shape.ensures.anchor;
      rest = chain (world_of c.self.inside.world.now);
      along = IsAlong-anchor (world_of c.self.inside.world.now) (g.O.SeqObject.sequential c.self.inside.world.now.object)
          c.shape.ensures.sound c.shape.ensures.fits _ (omega arith);
      whole = sym (position_from-zero (name_eq (Of c.args.call.process c.args.call.nth)) (chain (world_of c.self.inside.world.now)));
    })

pub is_cell_of-requires : goal.is_cell_of-requires
is_cell_of-requires g c = c.in-Some.ensures.there

pub returns-then-is_cell_of : goal.returns-then-is_cell_of
returns-then-is_cell_of g c =
    let on = along-next _ _ _ _ c.loop-next.invariant.along _ (sym c.in-Some.ensures.link) in
    let found = rw (on.1, ← c.is_cell_of.ensures, c.if-is_cell_of.true) at c.loop-next.invariant.whole in
    rw (← c.self.view_is) found

pub loop-next-preserved : goal.loop-next-preserved
loop-next-preserved g c =
    let on = along-next _ _ _ _ c.loop-next.invariant.along _ (sym c.in-Some.ensures.link) in
    record {
      there = c.in-Some.ensures.there;
      rest = on.0;
      along = subst (λ k. IsAlong (world_of c.self.inside.world.now) (name_in (world_of c.self.inside.world.now) c.in-Some.next) k on.0) (omega arith) on.2;
      whole = rw (on.1, ← c.is_cell_of.ensures, c.if-is_cell_of.false) at c.loop-next.invariant.whole;
    }

pub returns : goal.returns
returns g c =
    let end = along-end _ _ _ _ c.loop-next.invariant.along (sym c.in_default.ensures.link) in
    let whole = rw end at c.loop-next.invariant.whole in
    rw (← c.self.view_is) whole
