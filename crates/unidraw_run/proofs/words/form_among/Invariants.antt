use Rattle.unidraw_run.proofs.Vocabulary.{drop, fold, form_among, form_with, forms_used, found_of, map, option_shown, rows_of, ◌≡◌}
use Rattle.unidraw_run.proofs.words.form_among.Given as goal

-- the form that is asked for so far, with those of the rest
abbrev pub invariant-loop-option : goal.invariant-loop-option
invariant-loop-option l =
    fold form_with l.asked (forms_used (rows_of (found_of l.matches)) (map option_shown (drop l.option-index l.options)))
    ≡ form_among (forms_used (rows_of (found_of l.matches)) (map option_shown l.options))
