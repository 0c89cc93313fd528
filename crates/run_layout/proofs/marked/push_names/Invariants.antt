use Rattle.run_layout.proofs.Vocabulary.{map, names_from, sign_shown, ◌++◌, ◌-◌, ◌≡◌}
use Rattle.run_layout.proofs.marked.push_names.Given as goal

-- the names so far, and those of the processes from here on
abbrev pub invariant-loop-process : goal.invariant-loop-process
invariant-loop-process l =
    map sign_shown l.signs.items ++ names_from l.event l.process (l.to - l.process)
    ≡ map sign_shown l.initial.signs.items ++ names_from l.event l.from (l.to - l.from)
