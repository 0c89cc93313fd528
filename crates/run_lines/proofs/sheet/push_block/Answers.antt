use Rattle.run_lines.proofs.Vocabulary.{[], ap, append-nil, append_assoc, block_text, bottom_row, drop_all, map, rows_text, sym, take, take-map, ◌++◌, ◌∙◌, ◌∷◌, ◌≡◌}
use Rattle.run_lines.proofs.sheet.push_block.Goals as goal

pub returns : goal.returns
unfolding block_text
returns c =
    let block = c.args.block in
    let rows = c.args.rows.now in
    let drawn = c.rows_drawn-drawn.result.now in
    let none = ap (λ l. rows_text block c.loop-row.row (map (λ row. row.items) l)) (drop_all c.loop-row.row drawn c.loop-row-test.false) in
    let first : map (λ row. row.items) drawn ≡ take (bottom_row block.lanes) (map (λ row. row.items) rows) =
    ap (map (λ row. row.items)) c.rows_drawn-drawn.ensures ∙ sym (take-map (λ row. row.items) (bottom_row block.lanes) rows) in
    sym (append-nil c.loop-row.text.items) ∙ ap (λ l. c.loop-row.text.items ++ l) (sym none) ∙ c.loop-row.invariant
    ∙ ap (λ l. l ++ rows_text block 0 (map (λ row. row.items) drawn)) c.in_ok-push.ensures.items ∙ append_assoc c.args.text.now.items (10 ∷ []) (rows_text block 0 (map (λ row. row.items) drawn))
    ∙ ap (λ l. c.args.text.now.items ++ 10 ∷ rows_text block 0 l) first
