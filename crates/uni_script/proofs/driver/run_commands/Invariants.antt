use Rattle.uni_script.proofs.Vocabulary.{HasRun, Heard, IsAbout, IsHeld, Kind, List, Option, Session, Some, [], false, session_of, spoken, ℕ, ◌-◌, ◌≡◌}
use Rattle.uni_script.proofs.driver.run_commands.Given as goal

-- the lines that were taken so far were run
abbrev pub invariant-loop-answer : goal.invariant-loop-answer
invariant-loop-answer g l =
    IsHeld l.lines × (g.I.TextIn.has_failed l.reader ≡ false) × (g.W.TextOut.has_failed l.writer ≡ false)
    × (l.session.world.object ≡ l.initial.session.world.object)
    × ((kind : Kind g.S.Scripts.Session) (inside : Session g.row.O-State.Denot g.row.O-Inv.Denot g.row.O-Resp.Denot → g.S.Scripts.Session)
    → IsAbout kind (spoken g.O.SeqObject.sequential g.O.Spoken.language l.initial.session.world.object) l.initial.dialect inside
    → (old written : Option (List ℕ)) (remarks : Option Heard) (taken : List (List ℕ))
    → HasRun kind old (g.I.TextIn.remaining l.initial.reader) l.initial.lines written (g.W.TextOut.contents l.initial.writer) [] remarks (g.L.Listener.heard l.initial.listener) taken (Some (inside (session_of l.initial.session)))
    → (now : List (List ℕ)) × HasRun kind old (g.I.TextIn.remaining l.reader) l.lines written (g.W.TextOut.contents l.writer) l.text.items remarks (g.L.Listener.heard l.listener) now (Some (inside (session_of l.session))))

abbrev pub decreases-loop-answer : goal.decreases-loop-answer
decreases-loop-answer g l = 100000 - l.lines.count
