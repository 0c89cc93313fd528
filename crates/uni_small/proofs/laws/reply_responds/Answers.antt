use Rattle.uni_small.proofs.Reply.{replies}
use Rattle.uni_small.proofs.laws.reply_responds.Goals as goal

pub returns : goal.returns
returns g c o sizes id s loaded st me single stage last named = replies g.O.SmallObject.meaning o sizes id st me single s loaded stage last named
