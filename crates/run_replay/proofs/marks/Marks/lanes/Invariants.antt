use Rattle.run_replay.proofs.Vocabulary.{drop, era_shown, lanes_of, map, max, ◌≡◌}
use Rattle.run_replay.proofs.marks.Marks.lanes.Given as goal

abbrev pub invariant-loop-era : goal.invariant-loop-era
invariant-loop-era l = max l.lanes (lanes_of (map era_shown (drop l.era-index l.era-items))) ≡ lanes_of (map era_shown l.era-items)
