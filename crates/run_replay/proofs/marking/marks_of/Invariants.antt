use Rattle.run_replay.proofs.Vocabulary.{spoken, events_shown, length, marks_of_run, marks_shown, opened_world, world_of, ◌+◌, ◌≡◌}
use Rattle.run_replay.proofs.Replayed.{marks_then}
use Rattle.run_replay.proofs.marking.marks_of.Given as goal

abbrev pub invariant-loop-event : goal.invariant-loop-event
invariant-loop-event g l = record {
  object : l.replay.object ≡ l.fn.object;
  place : l.place + length l.event-iterator ≡ length l.run.events;
  marks : marks_then (spoken g.O.SeqObject.sequential g.O.Spoken.language l.fn.object) g.O.Spoken.state_text (marks_shown l.marks) (world_of l.replay) l.from l.place (events_shown l.event-iterator)
      ≡ marks_of_run (spoken g.O.SeqObject.sequential g.O.Spoken.language l.fn.object) g.O.Spoken.state_text l.fn.name (opened_world l.run.processes (g.O.SeqObject.sequential l.fn.object).initial l.run.first) (events_shown l.run.events);
}
