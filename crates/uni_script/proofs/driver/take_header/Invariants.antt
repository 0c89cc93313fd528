use Rattle.uni_script.proofs.Vocabulary.{HasRun, IsHeld, List, None, [], false, ℕ, ◌-◌, ◌≡◌}
use Rattle.uni_script.proofs.driver.take_header.Given as goal

-- the lines that were taken so far are notes
abbrev pub invariant-loop-lines : goal.invariant-loop-lines
invariant-loop-lines g l =
    IsHeld l.lines × (g.I.TextIn.has_failed l.reader ≡ false) × (g.W.TextOut.has_failed l.writer ≡ false)
    × ((taken : List (List ℕ))
    × HasRun (g.C.Catalogue.kind l.initial.catalogue l.initial.options) (g.I.TextIn.remaining l.initial.reader) (g.I.TextIn.remaining l.reader) l.lines (g.W.TextOut.contents l.initial.writer) (g.W.TextOut.contents l.writer) [] (g.L.Listener.heard l.initial.listener) (g.L.Listener.heard l.listener) taken None)

abbrev pub decreases-loop-lines : goal.decreases-loop-lines
decreases-loop-lines g l = 100000 - l.lines.count
