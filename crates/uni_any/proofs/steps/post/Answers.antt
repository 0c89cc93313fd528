use Rattle.uni_any.proofs.Vocabulary.{AllowsWrite, HasPosted, ShowsBoard, subst}
use Rattle.uni_any.proofs.Placing.{place_kept}
use Rattle.uni_any.proofs.Posting.{posts}
use Rattle.uni_any.proofs.steps.post.Goals as goal

pub write-before-requires-clause-rule : goal.write-before-requires-clause-rule
write-before-requires-clause-rule g c =
    let key = c.args.buffers.now.setup.about in
    let v = c.args.party.now.seat.me.0.client in
    let place = c.requires.place in
    subst (λ k. AllowsWrite (ShowsBoard g.O.SeqObject.sequential key.object key.processes) c.args.party.now.seat.id v k c.args.to c.args.news (HasPosted v c.args.to c.args.news)) place.first
    (posts g.O.SeqObject.sequential key.object key.processes c.args.party.now.seat.id v place.alone c.requires.news.0 c.args.to c.requires.inside c.requires.news.1 c.requires.few c.args.news c.requires.news.2)

pub returns-clause-place : goal.returns-clause-place
returns-clause-place g c =
    let w = c.write-before.ensures.told c.requires.news.0 c.requires.news.1 c.requires.news.2 in
    (place_kept c.args.buffers.now c.args.party.now c.write-before.new.party c.requires.place c.write-before.ensures.kept.0 c.write-before.ensures.kept.1 _ w, c.write-before.ensures.kept.1)
