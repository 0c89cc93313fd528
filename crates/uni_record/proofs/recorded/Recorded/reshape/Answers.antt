use Rattle.uni_record.proofs.Vocabulary.{CanEnd, IsQuiescent, Reshape, append-nil, arith, refl, standing_of, subst, sym, world_after, world_of, ◌≡◌}
use Rattle.uni_record.specs.declared.event.Event.TheVariants as stored
use Rattle.uni_record.proofs.Kept.{roomier}
use Rattle.uni_record.proofs.Ended.{quiescent_after, entries_joined, ended_kept}
use Rattle.uni_record.proofs.recorded.Recorded.reshape.Goals as goal

pub invariant_of-self : goal.invariant_of-self
invariant_of-self g c = rw (c.prepare_end.ensures.events.0, c.prepare_end.ensures.ended)
    (c.self.invariant.0, roomier _ _ _ _ _ _ _ _ _ _ c.self.invariant.1 c.prepare_end.ensures.events.1 (omega arith) (omega arith))

pub renew_for-requires-clause-quiescent : goal.renew_for-requires-clause-quiescent
renew_for-requires-clause-quiescent g c = (subst (λ r. CanEnd (standing_of r) c.args.m) (sym c.self.view_is) c.in_ok-number.ensures.allowed.1).0

pub renew_for-requires-clause-numbers : goal.renew_for-requires-clause-numbers
renew_for-requires-clause-numbers g c = (subst (λ r. CanEnd (standing_of r) c.args.m) (sym c.self.view_is) c.in_ok-number.ensures.allowed.1).1

pub invariant_of-self-in_default-renew_for : goal.invariant_of-self-in_default-renew_for
invariant_of-self-in_default-renew_for g c = rw (c.in_default-renew_for.ensures.unchanged, c.prepare_end.ensures.events.0, c.prepare_end.ensures.ended)
    (c.self.invariant.0, roomier _ _ _ _ _ _ _ _ _ _ c.self.invariant.1 c.prepare_end.ensures.events.1 (omega arith) (omega arith))

pub invariant_of-self-2 : goal.invariant_of-self-2
invariant_of-self-2 g c =
    let can = subst (λ r. CanEnd (standing_of r) c.args.m) (sym c.self.view_is) c.in_ok-number.ensures.allowed.1 in
    let w = world_of c.self.inside.world in
    let some = c.in_ok-number.ensures.allowed.0.0 in
    let quiet = subst (λ v. IsQuiescent v) (sym c.in-Ok-renew_for.ensures.renewed) (quiescent_after (g.O.SeqObject.sequential c.self.inside.world.object) w c.args.m c.shape.ensures.sound can.0) in
    rw c.push.ensures.room
    (ended_kept g.O.SeqObject.sequential _ (stored.Reshape c.args.m) _ _ _ _ _ c.self.invariant.0 c.self.invariant.1
    (record {
      object = c.renew_for.ensures.fixed.object;
      processes = refl;
      first = refl;
      limit = refl;
      world = c.in-Ok-renew_for.ensures.renewed;
      events = rw (← c.prepare_end.ensures.events.0) c.push.ensures.events;
      returns = sym (append-nil _);
      counts = sym (append-nil _);
      ended = entries_joined w _ _ _ _ c.in-Ok-append.ensures.items c.prepare_end.ensures.ended c.in-Ok.ensures.log;
    })
    (can.0, omega (arith, some)) quiet refl refl can.2 c.in-Ok.ensures.event_fits)

pub returns-clause-reshaped : goal.returns-clause-reshaped
returns-clause-reshaped g c = subst (λ r. world_of c.renew_for.new.self ≡ world_after (g.O.SeqObject.sequential r.world.object) (world_of r.world) (Reshape c.args.m)) c.self.view_is c.in-Ok-renew_for.ensures.renewed
