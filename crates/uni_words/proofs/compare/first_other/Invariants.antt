use Rattle.uni_words.proofs.Vocabulary.{entry_shown, map}
use Rattle.uni_words.proofs.Comparing.{AreTold}
use Rattle.uni_words.proofs.compare.first_other.Given as goal

abbrev pub invariant-loop-place : goal.invariant-loop-place
invariant-loop-place l = AreTold l.process (map entry_shown l.entries) l.own l.place l.at
