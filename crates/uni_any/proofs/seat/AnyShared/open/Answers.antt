use Rattle.uni_any.proofs.Seating.{all_own}
use Rattle.uni_any.proofs.seat.AnyShared.open.Goals as goal

pub returns-clause-own : goal.returns-clause-own
returns-clause-own g c = all_own c.in_ok-opened.opened.0 c.args.n c.in_ok-opened.opened.1.items c.in_ok-opened.ensures.seats
