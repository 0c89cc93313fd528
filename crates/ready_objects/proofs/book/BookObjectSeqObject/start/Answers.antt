use Rattle.std.proofs.Common.{refl}
use Rattle.ready_objects.proofs.book.BookObjectSeqObject.start.Goals as goal

pub returns : goal.returns
returns c = refl
