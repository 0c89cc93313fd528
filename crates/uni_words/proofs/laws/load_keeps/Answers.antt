use Rattle.uni_words.proofs.LawProofs.{loaded}
use Rattle.uni_words.proofs.Looks.{looked_leads}
use Rattle.uni_words.proofs.laws.load_keeps.Goals as goal

pub returns : goal.returns
returns g c object row w s id v call word read is seat pending load =
    looked_leads (g.O.WordObject.sequential object) row w s is id v seat.0 seat.1 call.mine call.stage pending word read
    (loaded (g.O.WordObject.sequential object) row w s id v is seat.0 seat.1 call.mine call.stage pending word read load)
