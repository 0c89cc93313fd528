use Rattle.uni_words.proofs.Opening.{opening_leads, opening_shown}
use Rattle.uni_words.proofs.laws.opening_shows.Goals as goal

pub returns : goal.returns
returns g c object n row below = (opening_shown (g.O.WordObject.sequential object) n row below, opening_leads (g.O.WordObject.sequential object) n row below)
