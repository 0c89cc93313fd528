use Rattle.std.proofs.Common.{rules}
use Rattle.ready_objects.proofs.sticky.StickyObjectSeqObject.apply.Goals as goal

pub returns : goal.returns
returns c = search rules
