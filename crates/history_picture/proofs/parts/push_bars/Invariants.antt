use Rattle.history_picture.proofs.Vocabulary.{bar_parts, drop, flat_map, map, meaning, ◌++◌, ◌≡◌}
use Rattle.history_picture.proofs.parts.push_bars.Given as goal

-- those so far, and those of the rest
abbrev pub invariant-loop-bar : goal.invariant-loop-bar
invariant-loop-bar l =
    map meaning l.parts.items ++ flat_map bar_parts (drop l.bar-index l.bars) ≡ map meaning l.fn.parts.items ++ flat_map bar_parts l.bars
