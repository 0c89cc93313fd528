use Rattle.run_tell.proofs.Vocabulary.{Moves, false, length, told_from, told_text, trace_with, ◌++◌, ◌+◌, ◌<◌, ◌≡◌}
use Rattle.run_tell.proofs.order.tell_events.Given as goal

-- what was gathered and what is still to be told is left to write
abbrev pub invariant-loop-text : goal.invariant-loop-text
invariant-loop-text g l = record {
  moves : Moves (g.W.TextOut.contents l.initial.out) (g.W.TextOut.contents l.out)
      (told_text g.T.Telling.wording (trace_with l.range l.opened l.fn.scenes) l.lines l.fn.remarks)
      (l.text.items ++ told_from g.T.Telling.wording l.range l.lines l.event l.scenes l.rest);
  good : g.W.TextOut.has_failed l.out ≡ false;
  numbers : l.event + length l.scenes < 18446744073709551616;
}

abbrev pub decreases-loop-text : goal.decreases-loop-text
decreases-loop-text g l = length l.scenes
