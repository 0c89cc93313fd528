use Rattle.uni_words.proofs.Asking.{asked_leads}
use Rattle.uni_words.proofs.laws.ask_keeps.Goals as goal

pub returns : goal.returns
returns g c object row w s id v call word is seat idle there = asked_leads (g.O.WordObject.sequential object) row w s is id v seat.0 seat.1 idle call word there
