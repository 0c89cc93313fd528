use Rattle.run_picture.proofs.Vocabulary.{Text, anywhere, map, meaning, ◌++◌, ◌≡◌}
use Rattle.run_picture.proofs.parts.push_box.Given as goal

-- those so far, and those of the rest
abbrev pub invariant-loop-line : goal.invariant-loop-line
invariant-loop-line l =
    map meaning l.parts.items ++ map (anywhere Text) (map (λ line. line.items) l.line-iterator.rest.items)
    ≡ map meaning l.initial.parts.items ++ map (anywhere Text) (map (λ line. line.items) l.fn.lines.items)
