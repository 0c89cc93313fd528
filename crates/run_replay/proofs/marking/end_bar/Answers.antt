use Rattle.run_replay.proofs.Vocabulary.{bar_shown, end_shown, ne_eqb, sym, ◌∙◌, ◌≢◌}
use Rattle.run_replay.proofs.Replayed.{bar_ended-ended, bar_ended-other}
use Rattle.run_replay.proofs.marking.end_bar.Goals.{else-is_none-via-then-is_none+else-process-from, else-is_none-via-else-is_none}
use Rattle.run_replay.proofs.marking.end_bar.Goals as goal

pub returns-else-is_none : goal.returns-else-is_none
returns-else-is_none c = elim c.else-is_none.branch [
  | else-is_none-via-then-is_none+else-process-from w ↦ (
      let apart : c.args.process ≢ c.args.bar.now.call.process = λ same. w.if-process-from.false (same ∙ sym w.from.ensures) in
      sym (bar_ended-other c.args.process (end_shown c.args.end.now) (bar_shown c.args.bar.now) (ne_eqb _ _ apart)))
  | else-is_none-via-else-is_none w ↦ sym (bar_ended-ended c.args.process (end_shown c.args.end.now) c.args.bar.now w.if-is_none.ensures)
]
