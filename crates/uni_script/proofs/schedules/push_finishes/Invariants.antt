use Rattle.uni_script.proofs.Vocabulary.{finish_lines, ◌++◌, ◌≡◌}
use Rattle.uni_script.proofs.schedules.push_finishes.Given as goal

abbrev pub invariant-loop-process : goal.invariant-loop-process
invariant-loop-process l = l.text.items ≡ l.initial.text.items ++ finish_lines l.process-counter
