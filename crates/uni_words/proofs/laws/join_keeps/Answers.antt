use Rattle.uni_words.proofs.Joining.{join_leads}
use Rattle.uni_words.proofs.laws.join_keeps.Goals as goal

pub returns : goal.returns
returns g c object row w s id v other x is at there apart some_left own_idle single idle = join_leads (g.O.WordObject.sequential object) row id v some_left own_idle other x single idle w s is at apart there
