use Rattle.uni_small.proofs.Stores.{announced}
use Rattle.uni_small.proofs.laws.announcement_invokes.Goals as goal

pub returns : goal.returns
returns g c o sizes id number inv st me single is few stage long = announced g.O.SmallObject.meaning o sizes id st me single number inv is few stage long
