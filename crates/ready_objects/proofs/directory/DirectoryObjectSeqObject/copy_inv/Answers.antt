use Rattle.std.proofs.Common.{rules}
use Rattle.ready_objects.proofs.directory.DirectoryObjectSeqObject.copy_inv.Goals as goal

pub returns : goal.returns
returns c = search rules
