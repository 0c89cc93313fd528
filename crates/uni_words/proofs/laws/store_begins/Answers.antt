use Rattle.uni_words.proofs.Begins.{begun_leads}
use Rattle.uni_words.proofs.laws.store_begins.Goals as goal

pub returns : goal.returns
returns g c object row w s id v word inv is seat idle room there = begun_leads (g.O.WordObject.sequential object) row w s is id v seat.0 seat.1 idle room word there inv
