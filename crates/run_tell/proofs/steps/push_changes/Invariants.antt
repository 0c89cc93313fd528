use Rattle.run_tell.proofs.Vocabulary.{change_shown, change_words, codes, flat_map, map, take, ◌++◌, ◌≡◌}
use Rattle.run_tell.specs.Sentences.{line_text}
use Rattle.run_tell.proofs.steps.push_changes.Given as goal

-- the lines so far
abbrev pub invariant-loop-change : goal.invariant-loop-change
invariant-loop-change l = l.text.items ≡ l.initial.text.items ++ flat_map (λ c. line_text (codes "    " ++ change_words c)) (map change_shown (take l.change-index l.changes))
