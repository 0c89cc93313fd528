use Rattle.run_tell.proofs.Vocabulary.{flat_map, remark_told, take, ◌++◌, ◌≡◌}
use Rattle.run_tell.proofs.order.push_remarks.Given as goal

-- the text so far
abbrev pub invariant-loop-one : goal.invariant-loop-one
invariant-loop-one g l = l.text.items ≡ l.initial.text.items ++ flat_map (remark_told g.T.Telling.wording l.range) (take l.one-index l.remarks)
