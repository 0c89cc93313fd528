use Rattle.std.proofs.Common.{rules}
use Rattle.uni_script.proofs.schedules.push_event.Goals as goal

pub returns-then-kind-le3-clause-text : goal.returns-then-kind-le3-clause-text
returns-then-kind-le3-clause-text g c = search rules

pub returns-else-kind-le3-clause-drawn : goal.returns-else-kind-le3-clause-drawn
returns-else-kind-le3-clause-drawn g c = search rules
