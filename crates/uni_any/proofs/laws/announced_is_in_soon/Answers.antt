use Rattle.uni_any.proofs.Meaning.{soon_at}
use Rattle.uni_any.proofs.laws.announced_is_in_soon.Goals as goal

pub returns : goal.returns
returns g c o n b local seat_of s p is inside late = soon_at g.O.SeqObject.sequential o n b local seat_of s is p inside late
