use Rattle.run_layout.proofs.Vocabulary.{drop, era_shown, map, new_names, sign_shown, ◌++◌, ◌≡◌}
use Rattle.run_layout.proofs.marked.push_new_names.Given as goal

-- the names so far, and those of the eras from here on
abbrev pub invariant-loop-era : goal.invariant-loop-era
invariant-loop-era l =
    map sign_shown l.signs.items ++ new_names l.named (map era_shown (drop l.era-index l.eras))
    ≡ map sign_shown l.initial.signs.items ++ new_names 64 (map era_shown l.eras)
