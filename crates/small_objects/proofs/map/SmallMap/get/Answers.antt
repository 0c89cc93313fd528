use Rattle.small_objects.proofs.Pairs.{told_absent, told_found}
use Rattle.small_objects.proofs.map.SmallMap.get.Goals as goal

pub returns-in-Some-clause-reply : goal.returns-in-Some-clause-reply
returns-in-Some-clause-reply c = told_found c.requires c.in-Some.ensures.first

pub returns-in-None-clause-reply : goal.returns-in-None-clause-reply
returns-in-None-clause-reply c = told_absent c.requires c.in-None.ensures.absent
