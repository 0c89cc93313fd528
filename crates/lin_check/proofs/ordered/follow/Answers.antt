use Rattle.std.proofs.Common.{length-set}
use Rattle.std.proofs.lemmas.Option.{slice_get_read}
use Rattle.std.proofs.lemmas.List.{get_or_default}
use Rattle.lin_check.proofs.Vocabulary.{Done, Idle, Some, ap, arith, length, refl, slice_get, slice_set, slot_at, sym, ◌∙◌, ◌≡◌}
use Rattle.lin_check.proofs.Ordering.{beyond, dies_next, follows_to, its_process, no_answer, no_call, no_event, no_slot, ready_at}
use Rattle.lin_check.proofs.ordered.follow.Goals as goal

pub returns-in_default-clause-none : goal.returns-in_default-clause-none
returns-in_default-clause-none g c =
    no_event (g.O.SeqObject.sequential c.args.object.now) c.args.history.now c.args.node c.requires.ready c.args.place (beyond c.args.history.now c.args.place c.in_default.ensures.lookup.0)

pub returns-in_default-event-clause-none : goal.returns-in_default-event-clause-none
returns-in_default-event-clause-none g c =
    let here = slice_get_read c.args.history.now (length c.args.history.now) c.args.place c.in-Some.event.now refl c.in-Some.ensures.lookup.3.0 c.in-Some.ensures.lookup.1 ∙ ap Some c.in_default-event.is in
    no_call (g.O.SeqObject.sequential c.args.object.now) c.args.history.now c.args.node c.requires.ready c.args.place c.in_default-event.field-0 c.in_default-event.field-1 here

pub returns-then-not-is_same_slot-clause-none : goal.returns-then-not-is_same_slot-clause-none
returns-then-not-is_same_slot-clause-none g c =
    let here = slice_get_read c.args.history.now (length c.args.history.now) c.args.place c.in-Some.event.now refl c.in-Some.ensures.lookup.3.0 c.in-Some.ensures.lookup.1 ∙ ap Some c.in-Call.is in
    let inside = its_process c.args.history.now (length c.args.node.slots.items) c.args.place c.in-Call.p c.in-Call.inv c.requires.within here in
    let slot : c.index-slot.result.now ≡ slot_at c.args.node.slots.items c.in-Call.p = c.index-slot.ensures ∙ get_or_default c.args.node.slots.items c.in-Call.p _ Idle inside in
    no_slot (g.O.SeqObject.sequential c.args.object.now) c.args.history.now c.args.node c.requires.ready c.args.place c.in-Call.p c.in-Call.inv here (λ e. c.if-not-is_same_slot.ensures.other refl (slot ∙ e))

pub returns-then-not-fits-clause-none : goal.returns-then-not-fits-clause-none
returns-then-not-fits-clause-none g c =
    let here = slice_get_read c.args.history.now (length c.args.history.now) c.args.place c.in-Some.event.now refl c.in-Some.ensures.lookup.3.0 c.in-Some.ensures.lookup.1 ∙ ap Some c.in-Call.is in
    let inside = its_process c.args.history.now (length c.args.node.slots.items) c.args.place c.in-Call.p c.in-Call.inv c.requires.within here in
    let slot : c.index-slot.result.now ≡ slot_at c.args.node.slots.items c.in-Call.p = c.index-slot.ensures ∙ get_or_default c.args.node.slots.items c.in-Call.p _ Idle inside in
    let is_open = sym slot ∙ c.if-not-is_same_slot.ensures.same refl in
    let un = c.if-not-fits.ensures.unfit refl in
    no_answer (g.O.SeqObject.sequential c.args.object.now) c.args.history.now c.args.node c.requires.ready c.args.place c.in-Call.p c.in-Call.inv here is_open c.in_ok-state.answer un.0 c.in_ok-state.ensures.response
    (ap (λ xs. slice_get xs c.args.place) (sym c.requires.replies) ∙ un.1) un.2

pub index_mut-requires : goal.index_mut-requires
index_mut-requires g c =
    let here = slice_get_read c.args.history.now (length c.args.history.now) c.args.place c.in-Some.event.now refl c.in-Some.ensures.lookup.3.0 c.in-Some.ensures.lookup.1 ∙ ap Some c.in-Call.is in
    let inside = its_process c.args.history.now (length c.args.node.slots.items) c.args.place c.in-Call.p c.in-Call.inv c.requires.within here in
    let ok = c.args.node.slots.ok in
    omega arith

pub advance-requires-clause-within : goal.advance-requires-clause-within
advance-requires-clause-within g c =
    λ k d less.
    let w = c.requires.within k d less in
    let e = length-set c.args.node.slots.items c.in-Call.p Done in
    omega arith

pub advance-requires-clause-at : goal.advance-requires-clause-at
advance-requires-clause-at g c =
    ready_at c.args.history.now c.args.node c.requires.ready

pub returns-then-advance-clause-some : goal.returns-then-advance-clause-some
returns-then-advance-clause-some g c =
    let here = slice_get_read c.args.history.now (length c.args.history.now) c.args.place c.in-Some.event.now refl c.in-Some.ensures.lookup.3.0 c.in-Some.ensures.lookup.1 ∙ ap Some c.in-Call.is in
    let inside = its_process c.args.history.now (length c.args.node.slots.items) c.args.place c.in-Call.p c.in-Call.inv c.requires.within here in
    let slot : c.index-slot.result.now ≡ slot_at c.args.node.slots.items c.in-Call.p = c.index-slot.ensures ∙ get_or_default c.args.node.slots.items c.in-Call.p _ Idle inside in
    let is_open = sym slot ∙ c.if-not-is_same_slot.ensures.same refl in
    follows_to (g.O.SeqObject.sequential c.args.object.now) c.args.history.now c.args.node c.requires.ready c.args.place c.in-Call.p c.in-Call.inv here is_open
    _ c.in_ok-state.state c.advance.new.node (c.if-advance.ensures.passes refl) refl c.in_ok-state.ensures.state
    c.in_ok-state.answer c.in_ok-state.ensures.response (λ r e. c.if-not-fits.ensures.fits refl r (ap (λ xs. slice_get xs c.args.place) c.requires.replies ∙ e))
    (c.if-advance.ensures.ready refl) c.if-advance.ensures.slots

pub returns-clause-none : goal.returns-clause-none
returns-clause-none g c =
    let here = slice_get_read c.args.history.now (length c.args.history.now) c.args.place c.in-Some.event.now refl c.in-Some.ensures.lookup.3.0 c.in-Some.ensures.lookup.1 ∙ ap Some c.in-Call.is in
    let inside = its_process c.args.history.now (length c.args.node.slots.items) c.args.place c.in-Call.p c.in-Call.inv c.requires.within here in
    let slot : c.index-slot.result.now ≡ slot_at c.args.node.slots.items c.in-Call.p = c.index-slot.ensures ∙ get_or_default c.args.node.slots.items c.in-Call.p _ Idle inside in
    let is_open = sym slot ∙ c.if-not-is_same_slot.ensures.same refl in
    dies_next (g.O.SeqObject.sequential c.args.object.now) c.args.history.now c.args.node c.requires.ready c.args.place c.in-Call.p c.in-Call.inv here is_open
    (slice_set c.args.node.slots.items c.in-Call.p Done) c.in_ok-state.state (c.if-advance.ensures.dead refl) refl c.in_ok-state.ensures.state
