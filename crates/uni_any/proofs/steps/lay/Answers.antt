use Rattle.uni_any.proofs.Vocabulary.{AllowsWrite, HasLaid, ShowsBoard, subst}
use Rattle.uni_any.proofs.Laying.{lays}
use Rattle.uni_any.proofs.Placing.{place_kept}
use Rattle.uni_any.proofs.steps.lay.Goals as goal

pub write-before-requires-clause-rule : goal.write-before-requires-clause-rule
write-before-requires-clause-rule g c =
    let key = c.args.buffers.now.setup.about in
    let v = c.args.party.now.seat.me.0.client in
    let place = c.requires.place in
    let news = c.requires.news in
    subst (λ k. AllowsWrite (ShowsBoard g.O.SeqObject.sequential key.object key.processes) c.args.party.now.seat.id v k c.args.to c.args.news (HasLaid g.O.SeqObject.sequential v c.args.to c.args.news)) place.first
    (lays g.O.SeqObject.sequential key.object key.processes c.args.party.now.seat.id v place.alone place.processes news.0 news.1.0 news.1.1.0 c.args.to c.requires.inside news.1.1.1 c.args.news news.1.1.2)

pub returns-clause-place : goal.returns-clause-place
returns-clause-place g c =
    let news = c.requires.news in
    let w = c.write-before.ensures.told news.0 news.1.0 news.1.1.0 news.1.1.1 news.1.1.2 in
    (place_kept c.args.buffers.now c.args.party.now c.write-before.new.party c.requires.place c.write-before.ensures.kept.0 c.write-before.ensures.kept.1 _ w, c.write-before.ensures.kept.1)
