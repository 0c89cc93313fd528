use Rattle.std.proofs.Common.{rules}
use Rattle.uni_words.proofs.seat.WordSeat.apply.Goals as goal

pub invariant_of-self : goal.invariant_of-self
invariant_of-self g c = search rules
