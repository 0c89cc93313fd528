use Rattle.run_layout.proofs.Vocabulary.{drop, labels_from, labels_of, length, map, told_shown, ◌++◌, ◌≡◌, ◌≤◌}
use Rattle.run_layout.proofs.refusals.told_of.Given as goal

-- the labels so far, and those of the rest
abbrev pub invariant-loop-place : goal.invariant-loop-place
invariant-loop-place l = record {
  small : l.times ≤ l.place;
  count : length l.told.items ≡ l.place;
  rest : map told_shown l.told.items ++ labels_from l.times (drop l.place l.remarks) ≡ labels_of l.remarks;
}
