use Rattle.run_lines.proofs.Vocabulary.{ended, flat_map, map, take, ◌++◌, ◌≡◌}
use Rattle.run_lines.proofs.texts.push_wrapped.Given as goal

-- the lines so far
abbrev pub invariant-loop-line : goal.invariant-loop-line
invariant-loop-line l = l.text.items ≡ l.initial.text.items ++ flat_map ended (map (λ line. line.items) (take l.line-index l.line-items))
