use Rattle.uni_words.proofs.Vocabulary.{IsRight, entry_shown, length, map, ℕ}
use Rattle.uni_words.proofs.Comparing.{AreListed}
use Rattle.uni_words.proofs.compare.differs.Given as goal

abbrev pub invariant-loop-process : goal.invariant-loop-process
invariant-loop-process g l =
    ((place : ℕ) → IsRight (g.O.WordObject.sequential l.object) (map entry_shown l.entries) (length l.lists) place)
    × AreListed (g.O.WordObject.sequential l.object) (map entry_shown l.entries) (map (λ own. own.items) l.lists) l.process
