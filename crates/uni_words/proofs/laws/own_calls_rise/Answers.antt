use Rattle.std.proofs.Common.{arith}
use Rattle.uni_words.proofs.Rising.{own_rises}
use Rattle.uni_words.proofs.laws.own_calls_rise.Goals as goal

pub returns : goal.returns
returns g c object row w s id v j k a b is seat less first second =
    own_rises (g.O.WordObject.sequential object) row w s is id (record { known = v }) seat.0 (let one = seat.1 in omega arith) j k a b less first second
