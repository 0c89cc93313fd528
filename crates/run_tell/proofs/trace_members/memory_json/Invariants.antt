use Rattle.run_tell.proofs.Vocabulary.{field_text, flat_map, held_fields, held_shown, map, take, ◌≡◌}
use Rattle.run_tell.proofs.trace_members.memory_json.Given as goal

-- the texts so far
abbrev pub invariant-loop-held : goal.invariant-loop-held
invariant-loop-held l = map (λ e. e.items) l.elements.items ≡ map field_text (flat_map held_fields (map held_shown (take l.held-index l.memory)))
