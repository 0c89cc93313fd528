use Rattle.uni_any.proofs.Laying.{lays_move}
use Rattle.uni_any.proofs.Starting.{starts_move}
use Rattle.uni_any.proofs.Viewing.{sees_move, views_move}
use Rattle.uni_any.proofs.laws.other_steps_append_nothing.Goals as goal

pub returns-clause-load : goal.returns-clause-load
returns-clause-load g c o n id tries inv v alone pending processes = starts_move g.O.SeqObject.sequential o n id v alone inv tries pending processes

pub returns-clause-block : goal.returns-clause-block
returns-clause-block g c o n id tries r inv image letter v alone processes inside laying news = lays_move g.O.SeqObject.sequential o n id v alone processes inv tries image r inside laying letter news

pub returns-clause-view : goal.returns-clause-view
returns-clause-view g c o n id v alone processes idle = views_move g.O.SeqObject.sequential o n id v alone processes idle

pub returns-clause-see : goal.returns-clause-see
returns-clause-see g c o n id r v alone processes idle inside here follows = sees_move g.O.SeqObject.sequential o n id v alone processes idle r inside here follows
