use Rattle.uni_any.proofs.Posting.{posts_move}
use Rattle.uni_any.proofs.laws.announcement_invokes.Goals as goal

pub returns : goal.returns
returns g c o n id r inv letter v alone inside posting few news = posts_move g.O.SeqObject.sequential o n id v alone inv r inside posting few letter news
