use Rattle.run_lines.proofs.Vocabulary.{block_text, flat_map, map, take, ◌++◌, ◌≡◌}
use Rattle.run_lines.proofs.sheet.push_blocks.Given as goal

-- the blocks so far
abbrev pub invariant-loop-block : goal.invariant-loop-block
invariant-loop-block l = l.text.items ≡ l.initial.text.items ++ flat_map (block_text (map (λ row. row.items) l.rows)) (take l.block-index l.blocks)
