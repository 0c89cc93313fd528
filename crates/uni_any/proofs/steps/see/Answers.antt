use Rattle.uni_any.proofs.Vocabulary.{AllowsTake, HasSeen, ShowsBoard, subst, sym}
use Rattle.uni_any.proofs.Placing.{place_kept}
use Rattle.uni_any.proofs.Viewing.{sees}
use Rattle.uni_any.proofs.steps.see.Goals as goal

pub take-requires-clause-rule : goal.take-requires-clause-rule
take-requires-clause-rule g c =
    let key = c.args.buffers.now.setup.about in
    let v = c.args.party.now.seat.me.0.client in
    let place = c.requires.place in
    subst (λ k. AllowsTake (ShowsBoard g.O.SeqObject.sequential key.object key.processes) c.args.party.now.seat.id v c.args.from k (HasSeen g.O.SeqObject.sequential v c.args.from)) place.first
    (sees g.O.SeqObject.sequential key.object key.processes c.args.party.now.seat.id v place.alone place.processes c.requires.idle c.args.from c.requires.inside c.requires.named c.requires.follows)

pub returns-clause-place : goal.returns-clause-place
returns-clause-place g c =
    let w = c.take.ensures.told c.requires.idle (sym c.requires.named) c.requires.follows in
    (place_kept c.args.buffers.now c.args.party.now c.take.new.party c.requires.place c.take.ensures.kept.0 c.take.ensures.kept.1 _ w.2, c.take.ensures.kept.1)
