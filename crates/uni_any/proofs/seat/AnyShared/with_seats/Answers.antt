use Rattle.uni_any.proofs.Opening.{opening_shows}
use Rattle.uni_any.proofs.seat.AnyShared.with_seats.Goals as goal

pub open-requires-clause-rule : goal.open-requires-clause-rule
open-requires-clause-rule g c = opening_shows g.O.SeqObject.sequential c.args.object c.args.n c.requires.few
