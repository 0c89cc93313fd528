use Rattle.run_tell.proofs.Vocabulary.{flat_map, indented, map, take, ◌++◌, ◌≡◌}
use Rattle.run_tell.proofs.steps.push_indented.Given as goal

-- the lines so far
abbrev pub invariant-loop-line : goal.invariant-loop-line
invariant-loop-line l = l.text.items ≡ l.initial.text.items ++ flat_map indented (map (λ line. line.items) (take l.line-index l.lines))
