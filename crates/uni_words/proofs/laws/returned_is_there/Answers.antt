use Rattle.uni_words.proofs.Vocabulary.{Of, subst, ◌≤◌}
use Rattle.uni_words.proofs.Asking.{number_told, returned_numbered}
use Rattle.uni_words.proofs.laws.returned_is_there.Goals as goal

pub returns : goal.returns
returns g c object row w s call word is over there =
    subst (λ t. 1 ≤ t) (number_told (g.O.WordObject.sequential object) row w s is (Of call.process call.nth) word there) (returned_numbered (g.O.WordObject.sequential object) row w s is call.process call.nth over)
