use Rattle.std.proofs.Common.{rules}
use Rattle.ready_objects.proofs.directory.DirectoryObjectSeqObject.start.Goals as goal

pub returns : goal.returns
returns c = search rules
