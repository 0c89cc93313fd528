use Rattle.uni_words.proofs.Vocabulary.{All, IsSeatOf, into_iter_items}
use Rattle.uni_words.proofs.Accounted.{IsAccounted}
use Rattle.uni_words.proofs.log.WordLog.close_all.Given as goal

abbrev pub invariant-loop-seat : goal.invariant-loop-seat
invariant-loop-seat g l =
    IsSeatOf l.fn.self l.first × All (IsSeatOf l.fn.self) (into_iter_items l.seat-iterator) × All (IsAccounted (into_iter_items l.seat-iterator) l.first) l.fn.seats.items
