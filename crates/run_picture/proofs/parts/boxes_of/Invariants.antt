use Rattle.run_picture.proofs.Vocabulary.{drop, era_shown, eras_from, map, meaning, ◌++◌, ◌≡◌}
use Rattle.run_picture.proofs.parts.boxes_of.Given as goal

-- those so far, and those of the eras from here on
abbrev pub invariant-loop-place : goal.invariant-loop-place
invariant-loop-place l =
    map meaning l.parts.items ++ eras_from l.dots l.place (map era_shown (drop l.place l.eras)) ≡ eras_from l.dots 0 (map era_shown l.eras)
