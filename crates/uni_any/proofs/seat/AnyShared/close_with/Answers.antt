use Rattle.uni_any.proofs.Vocabulary.{refl, ◌/◌}
use Rattle.uni_any.proofs.Closing.{seat_late, seat_told}
use Rattle.uni_any.proofs.seat.AnyShared.close_with.Goals as goal

pub returns-clause-told : goal.returns-clause-told
returns-clause-told g c =
    let before = c.close_with-closed.ensures in
    seat_told g.O.SeqObject.sequential c.args.self c.args.seat c.requires.seat c.close_with-closed.result before.layout before.last c.word-word.result c.word-word.ensures (record { news = c.told_last-news.result; number = c.word-word.result / 64 }) c.told_last-news.ensures refl

pub returns-clause-late : goal.returns-clause-late
returns-clause-late g c =
    let before = c.close_with-closed.ensures in
    seat_late g.O.SeqObject.sequential c.args.self c.args.seat c.requires.seat c.close_with-closed.result before.layout before.last c.word-word.result c.word-word.ensures (record { news = c.told_last-news.result; number = c.word-word.result / 64 }) c.told_last-news.ensures refl
