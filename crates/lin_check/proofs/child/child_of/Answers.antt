use Rattle.std.proofs.Common.{length-set}
use Rattle.std.proofs.lemmas.Option.{slice_get_read}
use Rattle.lin_check.proofs.Vocabulary.{None, Done, Some, ap, arith, length, refl, slice_get, slice_set, sym, ◌∙◌}
use Rattle.lin_check.proofs.Children.{fails_answer, fails_dead, leads_to}
use Rattle.lin_check.proofs.child.child_of.Goals as goal

pub returns-then-not-fits-clause-none : goal.returns-then-not-fits-clause-none
returns-then-not-fits-clause-none g c =
    let at_q = ap (λ xs. slice_get xs c.args.q) (sym c.deref.ensures.value) ∙ slice_get_read c.deref.result.now (length c.deref.result.now) c.args.q c.in-Some.slot.now refl c.in-Some.ensures.lookup.3.0 c.in-Some.ensures.lookup.1 in
    let here = slice_get_read c.args.history.now (length c.args.history.now) c.in-Open.call c.in-Some-get.event.now refl c.in-Some-get.ensures.lookup.3.0 c.in-Some-get.ensures.lookup.1 ∙ ap Some c.in-Call.is in
    let un = c.if-not-fits.ensures.unfit refl in
    fails_answer (g.O.SeqObject.sequential c.args.object.now) c.args.history.now c.args.node.now c.args.q c.in-Some.slot.now at_q c.in-Open.call c.in-Open.is c.in-Call.field-0 c.in-Call.inv here
    c.in_ok-state.answer un.0 c.in_ok-state.ensures.response (ap (λ xs. slice_get xs c.in-Open.call) (sym c.requires.replies) ∙ un.1) un.2

pub advance-requires-clause-within : goal.advance-requires-clause-within
advance-requires-clause-within g c = λ k d less.
    let w = c.requires.within k d less in
    let e = length-set c.in_ok-slots.slots.items c.args.q Done in
    let f = ap length (c.in_ok-slots.ensures.items ∙ c.deref-2.ensures.value) in
    omega arith

pub returns-then-advance-clause-some : goal.returns-then-advance-clause-some
returns-then-advance-clause-some g c =
    let at_q = ap (λ xs. slice_get xs c.args.q) (sym c.deref.ensures.value) ∙ slice_get_read c.deref.result.now (length c.deref.result.now) c.args.q c.in-Some.slot.now refl c.in-Some.ensures.lookup.3.0 c.in-Some.ensures.lookup.1 in
    let here = slice_get_read c.args.history.now (length c.args.history.now) c.in-Open.call c.in-Some-get.event.now refl c.in-Some-get.ensures.lookup.3.0 c.in-Some-get.ensures.lookup.1 ∙ ap Some c.in-Call.is in
    leads_to (g.O.SeqObject.sequential c.args.object.now) c.args.history.now c.args.node.now c.args.q c.in-Some.slot.now at_q c.in-Open.call c.in-Open.is c.in-Call.field-0 c.in-Call.inv here
    _ c.in_ok-state.state c.advance.new.node (c.if-advance.ensures.passes refl)
    (ap (λ xs. slice_set xs c.args.q Done) (c.in_ok-slots.ensures.items ∙ c.deref-2.ensures.value)) c.in_ok-state.ensures.state
    c.in_ok-state.answer c.in_ok-state.ensures.response (λ r e. c.if-not-fits.ensures.fits refl r (ap (λ xs. slice_get xs c.in-Open.call) c.requires.replies ∙ e))
    (c.if-advance.ensures.ready refl) c.if-advance.ensures.slots

pub returns-else-advance-clause-none : goal.returns-else-advance-clause-none
returns-else-advance-clause-none g c =
    let at_q = ap (λ xs. slice_get xs c.args.q) (sym c.deref.ensures.value) ∙ slice_get_read c.deref.result.now (length c.deref.result.now) c.args.q c.in-Some.slot.now refl c.in-Some.ensures.lookup.3.0 c.in-Some.ensures.lookup.1 in
    let here = slice_get_read c.args.history.now (length c.args.history.now) c.in-Open.call c.in-Some-get.event.now refl c.in-Some-get.ensures.lookup.3.0 c.in-Some-get.ensures.lookup.1 ∙ ap Some c.in-Call.is in
    fails_dead (g.O.SeqObject.sequential c.args.object.now) c.args.history.now c.args.node.now c.args.q c.in-Some.slot.now at_q c.in-Open.call c.in-Open.is c.in-Call.field-0 c.in-Call.inv here
    (slice_set c.in_ok-slots.slots.items c.args.q Done) c.in_ok-state.state (ap (λ xs. slice_set xs c.args.q Done) (c.in_ok-slots.ensures.items ∙ c.deref-2.ensures.value)) c.in_ok-state.ensures.state
    (c.if-advance.ensures.dead refl None)
