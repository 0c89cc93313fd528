use Rattle.unidraw_run.proofs.Vocabulary.{app_of, drop, false, map, option_shown, out-Command, with_options, ◌≡◌}
use Rattle.unidraw_run.proofs.words.with_options.Given as goal

-- the options so far, and the rest of them
abbrev pub invariant-loop-option : goal.invariant-loop-option
invariant-loop-option l = record {
  local : (out-Command l.command).has_globals ≡ false;
  rest : with_options (app_of l.command) (map option_shown (drop l.option-index l.options)) ≡ with_options (app_of l.initial.command) (map option_shown l.options);
}
