use Rattle.uni_log.proofs.Vocabulary.{length-map, map-append, name_in, refl, sym, world_of}
use Rattle.uni_log.proofs.Back.{IsBack-first, IsBack-further, less_before, back_reversed, first_kept}
use Rattle.uni_log.proofs.log.Log.cells_back.Goals as goal

pub loop-before-init : goal.loop-before-init
loop-before-init g c = record {
  there = rw (← c.self.view_is) at c.requires.there;
  first = rw (c.in_ok-push.ensures.items, c.new-back.ensures.items) refl;
  back = rw (c.in_ok-push.ensures.items, c.new-back.ensures.items) (IsBack-first (world_of c.self.inside.world.now) (name_in (world_of c.self.inside.world.now) c.args.from) (rw (← c.self.view_is) at c.requires.threaded));
}

pub loop-before-smaller : goal.loop-before-smaller
loop-before-smaller g c = less_before (world_of c.self.inside.world.now) (name_in (world_of c.self.inside.world.now) c.args.from)
    (g.O.SeqObject.sequential c.self.inside.world.now.object) c.shape.ensures.sound
    (name_in (world_of c.self.inside.world.now) c.loop-before.at) _ c.loop-before.invariant.back (name_in (world_of c.self.inside.world.now) c.in-Some.before) (sym c.in-Some.ensures.link)

pub loop-before-preserved : goal.loop-before-preserved
loop-before-preserved g c = record {
  there = c.in-Some.ensures.there;
  first = rw c.in_ok-push-2.ensures.items (first_kept c.loop-before.back.items _ _ c.loop-before.invariant.first);
  back = rw (c.in_ok-push-2.ensures.items, map-append) (IsBack-further (world_of c.self.inside.world.now) (name_in (world_of c.self.inside.world.now) c.args.from)
      (g.O.SeqObject.sequential c.self.inside.world.now.object) c.shape.ensures.sound
      (name_in (world_of c.self.inside.world.now) c.loop-before.at) _ c.loop-before.invariant.back (name_in (world_of c.self.inside.world.now) c.in-Some.before) (sym c.in-Some.ensures.link));
}

pub returns-clause-reversed : goal.returns-clause-reversed
returns-clause-reversed g c =
    let reversed = back_reversed (world_of c.self.inside.world.now) (name_in (world_of c.self.inside.world.now) c.args.from)
    (g.O.SeqObject.sequential c.self.inside.world.now.object) c.shape.ensures.sound
    (name_in (world_of c.self.inside.world.now) c.loop-before.at) _ c.loop-before.invariant.back (sym c.in_default.ensures.link) in
    rw (← c.self.view_is) (rw length-map at reversed)
