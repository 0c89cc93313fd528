use Rattle.uni_record.proofs.Vocabulary.{Call, CanBegin, append-nil, arith, refl, rules, set_aside, share, standing_of, subst, sym, world_after, world_of, ◌+◌, ◌∙◌, ◌≡◌, ◌≤◌}
use Rattle.uni_record.proofs.Kept.{begun_kept, roomier}
use Rattle.uni_record.proofs.Untrimmed.{begun-untrimmed}
use Rattle.uni_record.proofs.recorded.Recorded.begin.Goals as goal

pub invariant_of-self : goal.invariant_of-self
invariant_of-self g c = rw c.reserve_call.ensures.events (c.self.invariant.0, roomier _ _ _ _ _ _ _ _ _ _ c.self.invariant.1 c.reserve_call.ensures.grows (omega arith) (omega arith))

pub invariant_of-self-in_default-make_room : goal.invariant_of-self-in_default-make_room
invariant_of-self-in_default-make_room g c = rw (c.reserve_call.ensures.events, c.make_room.ensures.returns.0, c.make_room.ensures.counts.0)
    (c.self.invariant.0, roomier _ _ _ _ _ _ _ _ _ _ c.self.invariant.1 c.reserve_call.ensures.grows c.make_room.ensures.returns.1 c.make_room.ensures.counts.1)

pub invariant_of-self-in_default-begin : goal.invariant_of-self-in_default-begin
invariant_of-self-in_default-begin g c = rw (c.in_default-begin.ensures.unchanged, c.reserve_call.ensures.events, c.make_room.ensures.returns.0, c.make_room.ensures.counts.0)
    (c.self.invariant.0, roomier _ _ _ _ _ _ _ _ _ _ c.self.invariant.1 c.reserve_call.ensures.grows c.make_room.ensures.returns.1 c.make_room.ensures.counts.1)

pub invariant_of-self-2 : goal.invariant_of-self-2
invariant_of-self-2 g c =
    let allowed = subst (λ r. CanBegin (standing_of r) c.args.p) (sym c.self.view_is) c.in_ok-more.ensures.allowed in
    let room = subst (λ r. set_aside (world_of r.world) + share (world_of r.world).n ≤ c.in_ok-more.more) (sym c.self.view_is) c.in_ok-more.ensures.room in
    let fits = allowed.1 in
    let n = c.processes-n.ensures in
    let room_events = c.in-Ok-reserve_call.ensures.fits in
    let room_returns = c.in-Ok-make_room.ensures.returns_fit in
    let room_counts = c.in-Ok-make_room.ensures.counts_fit in
    rw c.push.ensures.room
    (begun_kept g.O.SeqObject.sequential _ c.args.p c.args.inv.now _ _ _ _ c.self.invariant.0
    (record {
      object = c.in-Ok-begin.ensures.fixed.object;
      processes = refl;
      first = refl;
      limit = refl;
      world = c.in-Ok-begin.ensures.begun;
      events = rw (← c.reserve_call.ensures.events, ← c.in-Ok.ensures) c.push.ensures.events;
      returns = c.make_room.ensures.returns.0 ∙ sym (append-nil _);
      counts = c.make_room.ensures.counts.0 ∙ sym (append-nil _);
      ended = sym (append-nil _);
    })
    allowed.0.0 allowed.0.1 (omega (arith, fits)) (omega (arith, room, room_events)) (omega (arith, n, room_returns)) (omega (arith, n, room_counts)))

pub returns-clause-begun : goal.returns-clause-begun
returns-clause-begun g c = subst (λ r. world_of c.begin.new.self ≡ world_after (g.O.SeqObject.sequential r.world.object) (world_of r.world) (Call c.args.p c.args.inv.now)) c.self.view_is c.in-Ok-begin.ensures.begun

pub returns-clause-event : goal.returns-clause-event
returns-clause-event g c = search rules

pub returns-clause-untrimmed : goal.returns-clause-untrimmed
returns-clause-untrimmed g c = let same = begun-untrimmed g.O.SeqObject.sequential c.args.self.now c.promise.ensures.recording c.args.p in search rules
