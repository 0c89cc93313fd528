use Rattle.run_lines.proofs.Vocabulary.{drop, no_notes, notes_from, ◌++◌, ◌≡◌, ◌≤◌}
use Rattle.run_lines.proofs.texts.push_notes.Given as goal

-- the notes so far, and those of the rest
abbrev pub invariant-loop-one : goal.invariant-loop-one
invariant-loop-one l = record {
  small : l.numbering.number ≤ l.one-index;
  rest : l.text.items ++ notes_from l.columns l.numbering (drop l.one-index l.remarks) ≡ l.initial.text.items ++ notes_from l.columns no_notes l.remarks;
}
