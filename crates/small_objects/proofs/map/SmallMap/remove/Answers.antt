use Rattle.small_objects.proofs.Pairs.{not_removed, removed, told_absent, told_found}
use Rattle.small_objects.proofs.map.SmallMap.remove.Goals as goal

pub returns-in_default-clause-state : goal.returns-in_default-clause-state
returns-in_default-clause-state c = not_removed c.requires c.in_default.ensures.absent

pub returns-in_default-clause-reply : goal.returns-in_default-clause-reply
returns-in_default-clause-reply c = told_absent c.requires c.in_default.ensures.absent

pub returns-clause-state : goal.returns-clause-state
returns-clause-state c = removed c.requires c.in-Some.ensures.first c.copy_within.new.self c.copy_within.ensures.after

pub returns-clause-reply : goal.returns-clause-reply
returns-clause-reply c = told_found c.requires c.in-Some.ensures.first
