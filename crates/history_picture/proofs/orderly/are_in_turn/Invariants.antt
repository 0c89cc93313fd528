use Rattle.history_picture.proofs.Vocabulary.{AreInTurn, drop, ◌↔◌}
use Rattle.history_picture.proofs.orderly.are_in_turn.Given as goal

-- what is seen of the rest is all that is missing
abbrev pub invariant-loop-i : goal.invariant-loop-i
invariant-loop-i l = AreInTurn (drop l.i l.bars) ↔ AreInTurn l.bars
