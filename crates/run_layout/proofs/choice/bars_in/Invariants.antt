use Rattle.run_layout.proofs.Vocabulary.{bar_in, bar_shown, filter, is_bar_in, map, ◌++◌, ◌≡◌}
use Rattle.run_layout.proofs.choice.bars_in.Given as goal

-- the bars so far, and those of the rest
abbrev pub invariant-loop-bar : goal.invariant-loop-bar
invariant-loop-bar l = map bar_shown l.part.items ++ map (bar_in l.range) (filter (is_bar_in l.range l.events) (map bar_shown l.bar-iterator.rest.items)) ≡ map (bar_in l.range) (filter (is_bar_in l.range l.events) (map bar_shown l.fn.bars.items))
