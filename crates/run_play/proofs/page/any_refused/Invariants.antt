use Rattle.run_play.proofs.Vocabulary.{any_refused, drop, ◌≡◌}
use Rattle.run_play.proofs.page.any_refused.Given as goal

-- none so far
abbrev pub invariant-loop-one : goal.invariant-loop-one
invariant-loop-one l = any_refused l.remarks ≡ any_refused (drop l.one-index l.remarks)
