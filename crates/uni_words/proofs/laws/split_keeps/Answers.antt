use Rattle.uni_words.proofs.Splitting.{split_leads}
use Rattle.uni_words.proofs.laws.split_keeps.Goals as goal

pub returns : goal.returns
returns g c object row w s id v is at some_left = split_leads (g.O.WordObject.sequential object) row id v some_left w s is at
