use Rattle.universal_c.proofs.Vocabulary.{AreTold, entry_shown, map}
use Rattle.universal_c.proofs.Called.{pair}
use Rattle.universal_c.proofs.compare.first_other.Given as goal

abbrev pub invariant-loop-place : goal.invariant-loop-place
invariant-loop-place l = AreTold l.process (map entry_shown l.entries) (map pair l.calls) l.place l.at
