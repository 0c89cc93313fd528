use Rattle.run_tell.proofs.Vocabulary.{change_shown, change_words, codes, flat_map, map, take, ◌++◌, ◌≡◌}
use Rattle.run_tell.proofs.rows.changed_words.Given as goal

-- the lines so far
abbrev pub invariant-loop-change : goal.invariant-loop-change
invariant-loop-change l = l.words.items ≡ flat_map (λ c. change_words c ++ codes "\n") (map change_shown (take l.change-index l.changes))
