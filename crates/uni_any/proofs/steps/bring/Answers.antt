use Rattle.uni_any.proofs.Vocabulary.{AllowsChange, HasBrought, ShowsBoard, ap, either, local_of, number_in, subst, sym, word_of, ◌+◌, ◌∙◌}
use Rattle.std.specs.Bool.{◌==◌}
use Rattle.uni_any.proofs.Bringing.{brings}
use Rattle.uni_any.proofs.Placing.{place_brought}
use Rattle.uni_any.proofs.steps.bring.Goals as goal

pub compare_exchange-requires-clause-rule : goal.compare_exchange-requires-clause-rule
compare_exchange-requires-clause-rule g c =
    let key = c.args.buffers.now.setup.about in
    let v = c.args.party.now.seat.me.0.client in
    let place = c.requires.place in
    let laid = c.requires.laid in
    let old = c.requires.words.0 in
    let allows = brings g.O.SeqObject.sequential key.object key.processes c.args.party.now.seat.id v place.alone place.processes laid.0 laid.1.0 laid.1.1.0 laid.1.1.1 in
    subst (λ w. AllowsChange (ShowsBoard g.O.SeqObject.sequential key.object key.processes) c.args.party.now.seat.id v 0 (λ n. either (n == c.args.old) w n) (HasBrought v))
    (ap (λ k. word_of (number_in k + 1) v.known.first) (sym old) ∙ ap (λ p. word_of (number_in c.args.old + 1) p) place.first ∙ sym c.requires.words.1)
    (subst (λ k. AllowsChange (ShowsBoard g.O.SeqObject.sequential key.object key.processes) c.args.party.now.seat.id v 0 (λ n. either (n == k) (word_of (number_in (local_of v).word + 1) v.known.first) n) (HasBrought v)) (sym old) allows)

pub returns-clause-place : goal.returns-clause-place
returns-clause-place g c =
    let laid = c.requires.laid in
    (place_brought c.args.buffers.now c.args.party.now c.compare_exchange.new.party c.requires.place c.compare_exchange.ensures.kept.0 c.compare_exchange.ensures.kept.1 laid.0 laid.1.0 laid.1.1.0 laid.1.1.1 c.compare_exchange.result c.compare_exchange.ensures.told, c.compare_exchange.ensures.kept.1)
