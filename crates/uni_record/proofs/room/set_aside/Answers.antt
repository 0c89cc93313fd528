use Rattle.std.proofs.Common.{rules}
use Rattle.uni_record.proofs.room.set_aside.Goals as goal

pub overflow_sub-sum : goal.overflow_sub-sum
overflow_sub-sum g c = search rules

pub loop-p-preserved : goal.loop-p-preserved
loop-p-preserved g c = search rules
