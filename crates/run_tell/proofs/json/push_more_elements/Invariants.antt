use Rattle.run_tell.proofs.Vocabulary.{after_comma, flat_map, map, take, ◌++◌, ◌≡◌}
use Rattle.run_tell.proofs.json.push_more_elements.Given as goal

-- the elements so far
abbrev pub invariant-loop-element : goal.invariant-loop-element
invariant-loop-element l = l.text.items ≡ l.initial.text.items ++ flat_map after_comma (map (λ e. e.items) (take l.element-index l.elements))
