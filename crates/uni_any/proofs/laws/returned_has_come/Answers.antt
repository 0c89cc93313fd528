use Rattle.uni_any.proofs.Meaning.{come_at}
use Rattle.uni_any.proofs.laws.returned_has_come.Goals as goal

pub returns : goal.returns
returns g c o n b local seat_of s p k call is inside at = come_at g.O.SeqObject.sequential o n b local seat_of s is p k call inside at
