use Rattle.run_layout.proofs.Vocabulary.{arrow_signs, bar_shown, bar_sign, dot_sign, flat_map, line_sign, map, refusal_signs, sign_shown, step_sign, take, text_signs, told_shown, ◌++◌, ◌≡◌}
use Rattle.run_layout.proofs.marked.signs_of.Given as goal

-- each loop: the signs so far
abbrev pub invariant-loop-line : goal.invariant-loop-line
invariant-loop-line l = map sign_shown l.signs.items ≡ map sign_shown l.initial.signs.items ++ map line_sign (take l.line-index l.line-items)

abbrev pub invariant-loop-bar : goal.invariant-loop-bar
invariant-loop-bar l = map sign_shown l.signs.items ≡ map sign_shown l.initial.signs.items ++ map (bar_sign l.marks.events) (map bar_shown (take l.bar-index l.bar-items))

abbrev pub invariant-loop-dot : goal.invariant-loop-dot
invariant-loop-dot l = map sign_shown l.signs.items ≡ map sign_shown l.initial.signs.items ++ flat_map arrow_signs (take l.dot-index l.dot-items)

abbrev pub invariant-loop-step : goal.invariant-loop-step
invariant-loop-step l = map sign_shown l.signs.items ≡ map sign_shown l.initial.signs.items ++ map step_sign (take l.step-index l.step-items)

abbrev pub invariant-loop-dot-2 : goal.invariant-loop-dot-2
invariant-loop-dot-2 l = map sign_shown l.signs.items ≡ map sign_shown l.initial.signs.items ++ map dot_sign (take l.dot-index l.dot-items)

abbrev pub invariant-loop-bar-2 : goal.invariant-loop-bar-2
invariant-loop-bar-2 l = map sign_shown l.signs.items ≡ map sign_shown l.initial.signs.items ++ flat_map text_signs (map bar_shown (take l.bar-index l.bar-items))

abbrev pub invariant-loop-told : goal.invariant-loop-told
invariant-loop-told l = map sign_shown l.signs.items ≡ map sign_shown l.initial.signs.items ++ flat_map refusal_signs (map told_shown (take l.told-index l.told-items))
