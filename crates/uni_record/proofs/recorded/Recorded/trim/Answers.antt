use Rattle.uni_record.proofs.Vocabulary.{CanEnd, Err, IsEndRefused, IsQuiescent, KeepsOpening, NumbersFit, Recording, Trim, [], ap, append-nil, arith, err_from_is_err_and, refl, standing_of, subst, sym, world_after, world_of, ◌++◌, ◌∙◌, ◌∷◌, ◌≡◌}
use Rattle.uni_record.specs.declared.event.Event.TheVariants as stored
use Rattle.uni_record.proofs.Kept.{roomier}
use Rattle.uni_record.proofs.Ended.{quiescent_after, entries_joined, ended_kept}
use Rattle.uni_record.proofs.Untrimmed.{trim-untrimmed}
use Rattle.uni_record.proofs.recorded.Recorded.trim.Goals as goal

pub invariant_of-self : goal.invariant_of-self
invariant_of-self g c = rw (c.prepare_end.ensures.events.0, c.prepare_end.ensures.ended)
    (c.self.invariant.0, roomier _ _ _ _ _ _ _ _ _ _ c.self.invariant.1 c.prepare_end.ensures.events.1 (omega arith) (omega arith))

pub renew-requires-clause-quiescent : goal.renew-requires-clause-quiescent
renew-requires-clause-quiescent g c = (subst (λ r. CanEnd (standing_of r) c.processes.result) (sym c.self.view_is) c.in_ok-number.ensures.allowed).0

pub renew-requires-clause-numbers : goal.renew-requires-clause-numbers
renew-requires-clause-numbers g c =
    let can = subst (λ r. CanEnd (standing_of r) c.processes.result) (sym c.self.view_is) c.in_ok-number.ensures.allowed in
    subst (λ k. NumbersFit (world_of c.self.inside.world) k c.self.inside.world.row) c.processes.ensures can.1

pub invariant_of-self-2 : goal.invariant_of-self-2
invariant_of-self-2 g c =
    let can = subst (λ r. CanEnd (standing_of r) c.processes.result) (sym c.self.view_is) c.in_ok-number.ensures.allowed in
    let w = world_of c.self.inside.world in
    let quiet = subst (λ v. IsQuiescent v) (sym c.renew.ensures.renewed) (quiescent_after (g.O.SeqObject.sequential c.self.inside.world.object) w w.n c.shape.ensures.sound can.0) in
    rw c.push.ensures.room
    (ended_kept g.O.SeqObject.sequential _ stored.Trim _ _ _ _ _ c.self.invariant.0 c.self.invariant.1
    (record {
      object = c.renew.ensures.fixed.object;
      processes = refl;
      first = refl;
      limit = refl;
      world = c.renew.ensures.renewed;
      events = rw (← c.prepare_end.ensures.events.0) c.push.ensures.events;
      returns = sym (append-nil _);
      counts = sym (append-nil _);
      ended = entries_joined w _ _ _ _ c.in-Ok-append.ensures.items c.prepare_end.ensures.ended c.in-Ok.ensures.log;
    })
    can.0 quiet refl refl can.2 c.in-Ok.ensures.event_fits)

pub returns-clause-trimmed : goal.returns-clause-trimmed
returns-clause-trimmed g c = subst (λ r. world_of c.renew.new.self ≡ world_after (g.O.SeqObject.sequential r.world.object) (world_of r.world) Trim) c.self.view_is c.renew.ensures.renewed

pub returns-in_err-number-clause-refused : goal.returns-in_err-number-clause-refused
returns-in_err-number-clause-refused g c =
    let told : c.from_residual.result ≡ Err c.in_err-number.field-0.0 = (let gave = err_from_is_err_and c.from_residual.result c.from_residual.ensures.1 in gave.1 ∙ ap Err gave.2) in
    let n = subst (λ r. c.processes.result ≡ (world_of r.world).n) c.self.view_is c.processes.ensures in
    rw told (subst (λ m. IsEndRefused (standing_of c.args.self.now) m c.in_err-number.field-0.0) n c.in_err-number.ensures.refused)

pub returns-clause-untrimmed : goal.returns-clause-untrimmed
returns-clause-untrimmed g c =
    let new : Recording _ _ _ _ = record {
      world = c.renew.new.self;
      processes = c.self.inside.processes;
      first = c.self.inside.first;
      limit = c.self.inside.limit;
      events = c.push.new.self.events;
      returns = c.self.inside.returns.items;
      counts = c.self.inside.counts.items;
      ended = c.append.new.self.items;
    } in
    trim-untrimmed g.O.SeqObject.sequential c.args.self.now new
    (subst (λ r. new.events ≡ r.events ++ stored.Trim ∷ []) c.self.view_is (rw (← c.prepare_end.ensures.events.0) c.push.ensures.events))
    (subst (λ r. KeepsOpening r new) c.self.view_is (record { object = c.renew.ensures.fixed.object; row = c.renew.ensures.fixed.row; processes = refl; first = refl; limit = refl }))
