use Rattle.run_replay.proofs.Vocabulary.{bar_ended, bar_shown, drop, end_shown, map, take, ◌++◌, ◌≡◌}
use Rattle.run_replay.proofs.marking.end_bars.Given as goal

abbrev pub invariant-loop-bar : goal.invariant-loop-bar
invariant-loop-bar l =
    let ends = bar_ended l.process (end_shown l.end) in
    map bar_shown (take l.bar-index l.bar-items) ++ map ends (map bar_shown (drop l.bar-index l.bar-items)) ≡ map ends (map bar_shown l.fn.bars.items)
