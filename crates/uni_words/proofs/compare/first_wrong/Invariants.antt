use Rattle.uni_words.proofs.Vocabulary.{entry_shown, map, ◌<◌, ◌^◌}
use Rattle.uni_words.proofs.Comparing.{AreRightTo}
use Rattle.uni_words.proofs.compare.first_wrong.Given as goal

abbrev pub invariant-loop-place : goal.invariant-loop-place
invariant-loop-place g l = (l.state < 2 ^ 31) × AreRightTo (g.O.WordObject.sequential l.object) (map entry_shown l.entries) l.processes l.place l.state
