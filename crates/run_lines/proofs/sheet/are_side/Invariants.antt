use Rattle.run_lines.proofs.Vocabulary.{AreSide, drop}
use Rattle.run_lines.proofs.sheet.are_side.Given as goal

-- what is seen of the rest is all that is missing
abbrev pub invariant-loop-block : goal.invariant-loop-block
invariant-loop-block l = AreSide l.end l.to (drop l.block-index l.blocks) → AreSide l.from l.to l.blocks
