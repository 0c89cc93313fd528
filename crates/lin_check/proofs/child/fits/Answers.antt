use Rattle.std.proofs.lemmas.Option.{slice_get_read}
use Rattle.lin_check.proofs.Vocabulary.{Some, ap, false, length, refl, sym, true, ◌∙◌, ◌≡◌}
use Rattle.lin_check.proofs.child.fits.Goals as goal

pub returns-clause-fits : goal.returns-clause-fits
returns-clause-fits g c = λ e r known.
    let here = slice_get_read c.args.replies.now (length c.args.replies.now) c.args.call c.in-Some.entry.now refl c.in-Some.ensures.lookup.3.0 c.in-Some.ensures.lookup.1 ∙ ap Some c.in-Some-entry.is in
    let f : Some (Some c.in-Some-entry.reply) ≡ Some (Some r) = sym here ∙ known in
    let same : c.in-Some-entry.reply ≡ r = cc in
    (g.met.O.SeqObject.same_resp c.args.answer c.in-Some-entry.reply).0 (sym c.eq.ensures ∙ e) ∙ same

pub returns-clause-unfit : goal.returns-clause-unfit
returns-clause-unfit g c = λ e.
    let here = slice_get_read c.args.replies.now (length c.args.replies.now) c.args.call c.in-Some.entry.now refl c.in-Some.ensures.lookup.3.0 c.in-Some.ensures.lookup.1 ∙ ap Some c.in-Some-entry.is in
    (c.in-Some-entry.reply, here, λ same. (let t : true ≡ false = sym ((g.met.O.SeqObject.same_resp c.args.answer c.in-Some-entry.reply).1 same) ∙ (sym c.eq.ensures ∙ e) in cc))
