use Rattle.uni_script.proofs.Vocabulary.{IsWritten, length, ◌≡◌}
use Rattle.uni_script.proofs.ends.write_all.Given as goal

abbrev pub invariant-loop-rest : goal.invariant-loop-rest
invariant-loop-rest g l =
    (g.T.TextOut.has_failed l.end ≡ g.T.TextOut.has_failed l.initial.end)
    × IsWritten (g.T.TextOut.contents l.initial.end) (g.T.TextOut.contents l.end) l.bytes l.rest

abbrev pub decreases-loop-rest : goal.decreases-loop-rest
decreases-loop-rest g l = length l.rest
