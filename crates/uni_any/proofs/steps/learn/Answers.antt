use Rattle.uni_any.proofs.Vocabulary.{AllowsTake, HasLearned, ShowsBoard, subst}
use Rattle.uni_any.proofs.Learning.{learns}
use Rattle.uni_any.proofs.Placing.{place_learned}
use Rattle.uni_any.proofs.steps.learn.Goals as goal

pub take-requires-clause-rule : goal.take-requires-clause-rule
take-requires-clause-rule g c =
    let key = c.args.buffers.now.setup.about in
    let v = c.args.party.now.seat.me.0.client in
    let place = c.requires.place in
    subst (λ k. AllowsTake (ShowsBoard g.O.SeqObject.sequential key.object key.processes) c.args.party.now.seat.id v c.args.from k (HasLearned g.O.SeqObject.sequential v c.args.from)) place.first
    (learns g.O.SeqObject.sequential key.object key.processes c.args.party.now.seat.id v place.alone place.processes c.requires.reading.0 c.requires.reading.1.0 c.args.from c.requires.inside c.requires.reading.1.1)

pub returns-clause-place : goal.returns-clause-place
returns-clause-place g c =
    (place_learned g.O.SeqObject.sequential c.args.buffers.now c.args.party.now c.take.new.party c.requires.place c.take.ensures.kept.0 c.take.ensures.kept.1 c.args.from c.requires.inside c.requires.reading.0 c.requires.reading.1.0 c.requires.reading.1.1 c.take.result c.take.ensures.told, c.take.ensures.kept.1)
