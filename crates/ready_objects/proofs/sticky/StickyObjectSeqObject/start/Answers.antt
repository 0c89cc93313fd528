use Rattle.std.proofs.Common.{refl}
use Rattle.ready_objects.proofs.sticky.StickyObjectSeqObject.start.Goals as goal

pub returns : goal.returns
returns c = refl
