use Rattle.uni_script.proofs.Drawing.{IsDrawn}
use Rattle.uni_script.proofs.schedules.push_events.Given as goal

abbrev pub invariant-loop : goal.invariant-loop
invariant-loop g l =
    IsDrawn g.O.Spoken.language l.processes (g.D.Drawn.word l.initial.source) l.initial.text.items l.events l.counter l.text.items (g.D.Drawn.word l.source)
