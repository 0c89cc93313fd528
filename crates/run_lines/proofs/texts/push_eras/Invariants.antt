use Rattle.run_lines.proofs.Vocabulary.{drop, era_shown, eras_from, map, ◌++◌, ◌≡◌}
use Rattle.run_lines.proofs.texts.push_eras.Given as goal

-- the eras so far, and those of the rest
abbrev pub invariant-loop-place : goal.invariant-loop-place
invariant-loop-place l = l.text.items ++ eras_from l.columns l.dots l.place (map era_shown (drop l.place l.eras)) ≡ l.initial.text.items ++ eras_from l.columns l.dots 0 (map era_shown l.eras)
