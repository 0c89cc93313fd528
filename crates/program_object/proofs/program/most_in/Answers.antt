use Rattle.program_object.proofs.Vocabulary.{Set, ◌-◌, ◌^◌}
use Rattle.program_object.proofs.Lists.{capped_more}
use Rattle.program_object.proofs.program.most_in.Goals as goal

pub loop-instruction-preserved : goal.loop-instruction-preserved
loop-instruction-preserved c =
    capped_more (2 ^ 64 - 1) c.args.instructions.now c.loop-instruction.instruction-index c.loop-instruction.sum c.most_of.result c.saturating_add-sum.result (Set 0 0)
    c.loop-instruction-test.true c.loop-instruction.invariant c.most_of.ensures c.saturating_add-sum.ensures
