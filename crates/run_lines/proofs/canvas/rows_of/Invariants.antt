use Rattle.run_lines.proofs.Vocabulary.{map, range_with_len, row_of, ◌≡◌}
use Rattle.run_lines.proofs.canvas.rows_of.Given as goal

-- the rows so far
abbrev pub invariant-loop-row : goal.invariant-loop-row
invariant-loop-row l = map (λ row. row.items) l.rows.items ≡ map (row_of l.strokes l.width) (range_with_len 0 l.row)
