use Rattle.run_lines.proofs.Vocabulary.{drop, map, meaning, no_notes, numbers_from, ◌++◌, ◌≡◌, ◌≤◌}
use Rattle.run_lines.proofs.parts.push_numbers.Given as goal

-- the numbers so far, and those of the rest
abbrev pub invariant-loop-one : goal.invariant-loop-one
invariant-loop-one l = record {
  small : l.numbering.number ≤ l.one-index;
  rest : map meaning l.parts.items ++ numbers_from l.numbering (drop l.one-index l.remarks)
      ≡ map meaning l.initial.parts.items ++ numbers_from no_notes l.remarks;
}
