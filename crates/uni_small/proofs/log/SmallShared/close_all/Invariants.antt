use Rattle.uni_small.proofs.Vocabulary.{All, Contains, IsSeatOf, ProcessReturned, flat_map, into_iter_items, known_calls, ◌++◌}
use Rattle.uni_small.proofs.log.SmallShared.close_all.Given as goal

abbrev pub invariant-loop-seat : goal.invariant-loop-seat
invariant-loop-seat g l =
    IsSeatOf l.fn.self l.first × All (IsSeatOf l.fn.self) (into_iter_items l.seat-iterator)
    × ((its : ProcessReturned) → Contains (flat_map known_calls l.fn.seats.items) its → Contains (known_calls l.first ++ flat_map known_calls (into_iter_items l.seat-iterator)) its)
