use Rattle.run_lines.proofs.Vocabulary.{List, Stroke, [], ap, arith, common_steps, fill_by_all, fold, fold-append, get_or, get_or-replicate, length, letter_after, letter_at, replicate, rules, sym, take, take_all, take_more, ℕ, ◌++◌, ◌+◌, ◌<◌, ◌∙◌, ◌∷◌, ◌≡◌}
use Rattle.run_lines.proofs.canvas.row_of.Goals.{then-is_in_row, else-is_in_row}
use Rattle.run_lines.proofs.canvas.row_of.Goals as goal

-- a letter after one more stroke
letter_at_more : (strokes : List Stroke) (row column i : ℕ) (stroke : Stroke) → i < length strokes → stroke ≡ get_or strokes i stroke
    → letter_at (take (i + 1) strokes) row column ≡ letter_after row column (letter_at (take i strokes) row column) stroke
unfolding letter_at
letter_at_more strokes row column i stroke inside is =
    ap (fold (letter_after row column) 32) (take_more strokes i stroke inside ∙ ap (λ s. take i strokes ++ s ∷ []) (sym is))
    ∙ fold-append (letter_after row column) 32 (take i strokes) (stroke ∷ [])

pub loop-stroke-init : goal.loop-stroke-init
unfolding letter_at
loop-stroke-init c =
    let blanks : c.in_ok-letters.letters.items ≡ replicate c.args.width 32 = c.in_ok-letters.ensures.items_if_clones_equal (λ y h. search rules) in
    record { wide = omega (arith, c.in_ok-letters.ensures.len); letters = λ column inside. ap (λ l. get_or l column 0) blanks ∙ get_or-replicate c.args.width column 32 0 inside }

pub loop-stroke-preserved : goal.loop-stroke-preserved
loop-stroke-preserved c =
    elim c.if-is_in_row.branch [
      | then-is_in_row w ↦ record {
        wide = grind (arith, common_steps);
        letters = λ column inside.
            let more = letter_at_more c.args.strokes.now c.args.row column c.loop-stroke.stroke-index c.stroke-item.result c.loop-stroke-test.true c.stroke-item.is in
            let before = c.loop-stroke.invariant.letters column inside in
            let after = w.put.ensures column (omega arith) in
            grind (arith, common_steps);
      }
      | else-is_in_row w ↦ record {
        wide = grind (arith, common_steps);
        letters = λ column inside.
            let more = letter_at_more c.args.strokes.now c.args.row column c.loop-stroke.stroke-index c.stroke-item.result c.loop-stroke-test.true c.stroke-item.is in
            let before = c.loop-stroke.invariant.letters column inside in
            grind (arith, common_steps);
      }
    ]

pub returns : goal.returns
returns c =
    fill_by_all (letter_at c.args.strokes.now c.args.row) c.loop-stroke.letters.items c.args.width 0 c.loop-stroke.invariant.wide
    (λ column inside. c.loop-stroke.invariant.letters column inside ∙ ap (λ l. letter_at l c.args.row column) (take_all c.loop-stroke.stroke-index c.args.strokes.now c.loop-stroke-test.false))
