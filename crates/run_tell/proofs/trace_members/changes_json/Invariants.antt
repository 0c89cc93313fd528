use Rattle.run_tell.proofs.Vocabulary.{change_members, change_shown, map, object_text, take, ◌≡◌}
use Rattle.run_tell.proofs.trace_members.changes_json.Given as goal

-- the texts so far
abbrev pub invariant-loop-change : goal.invariant-loop-change
invariant-loop-change l = map (λ e. e.items) l.elements.items ≡ map (λ c. object_text (change_members c)) (map change_shown (take l.change-index l.changes))
