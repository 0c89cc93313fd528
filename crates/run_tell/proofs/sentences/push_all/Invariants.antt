use Rattle.run_tell.proofs.Vocabulary.{flat_map, take, ◌++◌, ◌≡◌}
use Rattle.run_tell.proofs.sentences.push_all.Given as goal

-- the texts so far
abbrev pub invariant-loop-piece : goal.invariant-loop-piece
invariant-loop-piece l = l.words.items ≡ l.initial.words.items ++ flat_map (λ piece. piece.now) (take l.piece-index l.pieces)
