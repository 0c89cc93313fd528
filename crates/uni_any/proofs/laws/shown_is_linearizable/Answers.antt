use Rattle.uni_any.proofs.Meaning.{linearized_at}
use Rattle.uni_any.proofs.laws.shown_is_linearizable.Goals as goal

pub returns : goal.returns
returns g c o n b local seat_of s is known by = linearized_at g.O.SeqObject.sequential o n b local seat_of s is known by
