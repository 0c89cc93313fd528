use Rattle.uni_small.proofs.Loads.{returned_come}
use Rattle.uni_small.proofs.laws.returned_has_come.Goals as goal

pub returns : goal.returns
returns g c o sizes board local seat_of s p k call few is inside at = returned_come g.O.SmallObject.meaning o sizes board local seat_of s few is p k call inside at
