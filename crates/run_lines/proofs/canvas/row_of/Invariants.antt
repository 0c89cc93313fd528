use Rattle.run_lines.proofs.Vocabulary.{get_or, length, letter_at, take, ℕ, ◌<◌, ◌≡◌}
use Rattle.run_lines.proofs.canvas.row_of.Given as goal

-- each letter is that of the strokes so far
abbrev pub invariant-loop-stroke : goal.invariant-loop-stroke
invariant-loop-stroke l = record {
  wide : length l.letters.items ≡ l.width;
  letters : (column : ℕ) → column < l.width → get_or l.letters.items column 0 ≡ letter_at (take l.stroke-index l.strokes) l.row column;
}
