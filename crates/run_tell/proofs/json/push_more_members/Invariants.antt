use Rattle.run_tell.proofs.Vocabulary.{after_comma, flat_map, map, member_shown, member_text, take, ◌++◌, ◌≡◌}
use Rattle.run_tell.proofs.json.push_more_members.Given as goal

-- the members so far
abbrev pub invariant-loop-one : goal.invariant-loop-one
invariant-loop-one l = l.text.items ≡ l.initial.text.items ++ flat_map after_comma (map member_text (map member_shown (take l.one-index l.members)))
