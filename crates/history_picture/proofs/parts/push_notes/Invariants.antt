use Rattle.history_picture.proofs.Vocabulary.{drop, line_part, map, meaning, ◌++◌, ◌≡◌}
use Rattle.history_picture.proofs.parts.push_notes.Given as goal

-- those so far, and those of the rest
abbrev pub invariant-loop-note : goal.invariant-loop-note
invariant-loop-note l =
    map meaning l.parts.items ++ map (λ note. line_part note.items) (drop l.note-index l.notes)
    ≡ map meaning l.fn.parts.items ++ map (λ note. line_part note.items) l.notes
