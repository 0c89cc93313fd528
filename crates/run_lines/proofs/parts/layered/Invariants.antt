use Rattle.run_lines.proofs.Vocabulary.{Sign, filter, is_arrow, map, not, sign_shown, ◌++◌, ◌≡◌}
use Rattle.run_lines.proofs.parts.layered.Given as goal

-- both so far, and those of the rest
abbrev pub invariant-loop-sign : goal.invariant-loop-sign
invariant-loop-sign l = record {
  first : map sign_shown l.first.items ++ filter (λ (s : Sign). not (is_arrow s.mark)) (map sign_shown l.sign-iterator.rest.items)
      ≡ filter (λ (s : Sign). not (is_arrow s.mark)) (map sign_shown l.fn.signs.items);
  arrows : map sign_shown l.arrows.items ++ filter (λ (s : Sign). is_arrow s.mark) (map sign_shown l.sign-iterator.rest.items)
      ≡ filter (λ (s : Sign). is_arrow s.mark) (map sign_shown l.fn.signs.items);
}
