use Rattle.uni_shared.proofs.Vocabulary.{first_seat, map, range_with_len, ◌≡◌}
use Rattle.uni_shared.proofs.shared.seats_of.Given as goal

abbrev pub invariant-loop-p : goal.invariant-loop-p
invariant-loop-p g l = l.seats.items ≡ map (first_seat l.n) (range_with_len 0 l.p)
