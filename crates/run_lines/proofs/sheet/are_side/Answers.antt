use Rattle.run_lines.proofs.Vocabulary.{AreSide, Block, List, more_at, none, rules}
use Rattle.run_lines.proofs.sheet.are_side.Goals as goal

pub loop-block-preserved : goal.loop-block-preserved
loop-block-preserved c = λ rest. c.loop-block.invariant
    (more_at (λ (l : List Block). AreSide c.loop-block.end c.args.to l) c.args.blocks.now c.loop-block.block-index
    (record { from = 0; to = 0; named = 0; lanes = 0 }) c.loop-block-test.true (c.if-block-end.false, rest))

pub returns : goal.returns
returns c = λ past. c.loop-block.invariant
    (none (λ (l : List Block). AreSide c.loop-block.end c.args.to l) c.args.blocks.now c.loop-block.block-index c.loop-block-test.false (search rules))
