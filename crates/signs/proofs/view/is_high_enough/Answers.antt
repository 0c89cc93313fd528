use Rattle.signs.proofs.Vocabulary.{IsHighEnough, subst, sym}
use Rattle.signs.proofs.view.is_high_enough.Goals as goal

pub returns-in-View : goal.returns-in-View
returns-in-View c = λ ok. subst (IsHighEnough c.args.strip.now) (sym c.in-View.is) (c.cuts_none.ensures ok)
