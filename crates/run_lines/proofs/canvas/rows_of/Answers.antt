use Rattle.run_lines.proofs.Vocabulary.{[], ap, arith, map, map-append, map-range_with_len_more, range_with_len, row_of, rows_of, sym, ◌++◌, ◌∙◌, ◌∷◌, ◌≡◌}
use Rattle.run_lines.proofs.canvas.rows_of.Goals as goal

pub loop-row-preserved : goal.loop-row-preserved
loop-row-preserved c =
    let row = c.loop-row.row in
    let strokes = c.args.strokes.now in
    let before = map (λ r. r.items) c.loop-row.rows.items in
    ap (map (λ r. r.items)) c.in_ok-push.ensures.items ∙ map-append (λ r. r.items) c.loop-row.rows.items (c.in_ok-row_of.field-0 ∷ [])
    ∙ ap (λ l. before ++ l ∷ []) c.in_ok-row_of.ensures ∙ ap (λ l. l ++ row_of strokes c.args.width row ∷ []) c.loop-row.invariant
    ∙ sym (map-range_with_len_more (row_of strokes c.args.width) 0 row row (omega arith))

pub returns : goal.returns
unfolding rows_of
returns c =
    c.loop-row.invariant ∙ ap (λ n. map (row_of c.args.strokes.now c.args.width) (range_with_len 0 n)) (let same : c.loop-row.row ≡ c.args.count = omega arith in same)
