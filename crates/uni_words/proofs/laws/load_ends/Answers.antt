use Rattle.uni_words.proofs.LawProofs.{LoadEnds-holds}
use Rattle.uni_words.proofs.laws.load_ends.Goals as goal

pub returns : goal.returns
returns g c object = LoadEnds-holds (g.O.WordObject.sequential object)
