use Rattle.run_layout.proofs.Vocabulary.{length, lines_of, map, ◌++◌, ◌+◌, ◌-◌, ◌≡◌, ◌≤◌}
use Rattle.run_layout.proofs.wrapping.push_lines.Given as goal

-- the lines so far, and those of the rest
abbrev pub invariant-loop-place : goal.invariant-loop-place
invariant-loop-place l = record {
  few : length l.lines.items ≤ length l.initial.lines.items + l.place;
  rest : map (λ line. line.items) l.lines.items ++ lines_of (200 - l.place) l.most l.rest ≡ map (λ line. line.items) l.initial.lines.items ++ lines_of 200 l.most l.fn.text;
}
