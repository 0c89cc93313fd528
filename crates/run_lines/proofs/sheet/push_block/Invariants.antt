use Rattle.run_lines.proofs.Vocabulary.{drop, map, rows_text, ◌++◌, ◌≡◌}
use Rattle.run_lines.proofs.sheet.push_block.Given as goal

-- the rows so far, and the rest
abbrev pub invariant-loop-row : goal.invariant-loop-row
invariant-loop-row l =
    l.text.items ++ rows_text l.block l.row (map (λ row. row.items) (drop l.row l.drawn)) ≡ l.initial.text.items ++ rows_text l.block 0 (map (λ row. row.items) l.drawn)
