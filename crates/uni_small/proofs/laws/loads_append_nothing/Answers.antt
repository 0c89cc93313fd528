use Rattle.uni_small.proofs.Rejoining.{recounts, rereads, restarts}
use Rattle.uni_small.proofs.Loads.{begins_own, checks_own, reads, starts, copies, looks, asks, checks, turns, follows_on, recalls_on}
use Rattle.uni_small.proofs.Reply.{loads}
use Rattle.uni_small.proofs.laws.loads_append_nothing.Goals as goal

pub returns-clause-start : goal.returns-clause-start
returns-clause-start g c o sizes id tries st me few single below stage = starts g.O.SmallObject.meaning o sizes id few st me single tries below stage

pub returns-clause-copy : goal.returns-clause-copy
returns-clause-copy g c o sizes id tries s i st me few single copying below named = copies g.O.SmallObject.meaning o sizes id few st me single tries s i copying below named

pub returns-clause-look : goal.returns-clause-look
returns-clause-look g c o sizes id tries s r st me few single looking inside = looks g.O.SmallObject.meaning o sizes id few st me single tries s r looking inside

pub returns-clause-ask : goal.returns-clause-ask
returns-clause-ask g c o sizes id tries s r k st me few single asking inside below = asks g.O.SmallObject.meaning o sizes id few st me single tries s r k asking inside below

pub returns-clause-check : goal.returns-clause-check
returns-clause-check g c o sizes id tries s st me few single looking announced = checks g.O.SmallObject.meaning o sizes id few st me single tries s looking announced (g.met.O.SmallObject.steady o)

pub returns-clause-turn : goal.returns-clause-turn
returns-clause-turn g c o sizes id tries st me few single two stage announced = turns g.O.SmallObject.meaning o sizes id few st me single tries two stage announced

pub returns-clause-follow : goal.returns-clause-follow
returns-clause-follow g c o sizes id st me few single stage = follows_on g.O.SmallObject.meaning o sizes id few st me single stage

pub returns-clause-load : goal.returns-clause-load
returns-clause-load g c o sizes id s k st me single loading below named = loads g.O.SmallObject.meaning o sizes id st me single s k loading below named

pub returns-clause-try_directly : goal.returns-clause-try_directly
returns-clause-try_directly g c o sizes id st me few single stage untried room = begins_own g.O.SmallObject.meaning o sizes id few st me single stage untried room

pub returns-clause-check_own : goal.returns-clause-check_own
returns-clause-check_own g c o sizes id s st me few single looking direct = checks_own g.O.SmallObject.meaning o sizes id few st me single s looking direct (g.met.O.SmallObject.steady o)

pub returns-clause-recount : goal.returns-clause-recount
returns-clause-recount g c o sizes id st me few single = recounts g.O.SmallObject.meaning o sizes id few st me single

pub returns-clause-reread : goal.returns-clause-reread
returns-clause-reread g c o sizes id which k st me few single either below at =
    rereads g.O.SmallObject.meaning o sizes id few st me single which k either below at

pub returns-clause-restart : goal.returns-clause-restart
returns-clause-restart g c o sizes id st me few single = restarts g.O.SmallObject.meaning o sizes id few st me single

pub returns-clause-recall : goal.returns-clause-recall
returns-clause-recall g c o sizes id read st me few single stage had =
    recalls_on g.O.SmallObject.meaning o sizes id few st me single read stage had

pub returns-clause-confirm : goal.returns-clause-confirm
returns-clause-confirm g c o sizes id s st me few single copying direct = reads g.O.SmallObject.meaning o sizes id few st me single s copying direct
