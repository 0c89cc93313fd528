use Rattle.run_lines.proofs.Vocabulary.{headings_text, take, ◌++◌, ◌≡◌}
use Rattle.run_lines.proofs.texts.push_headings.Given as goal

-- the headings so far
abbrev pub invariant-loop-one : goal.invariant-loop-one
invariant-loop-one l = l.text.items ≡ l.initial.text.items ++ headings_text l.columns (take l.one-index l.remarks)
