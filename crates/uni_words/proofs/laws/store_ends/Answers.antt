use Rattle.uni_words.proofs.LawProofs.{StoreEnds-holds}
use Rattle.uni_words.proofs.laws.store_ends.Goals as goal

pub returns : goal.returns
returns g c object = StoreEnds-holds (g.O.WordObject.sequential object)
