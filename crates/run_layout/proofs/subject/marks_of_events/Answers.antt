use Rattle.run_layout.proofs.Vocabulary.{marks_of_events}
use Rattle.run_layout.proofs.subject.marks_of_events.Goals as goal

pub returns-clause-marks : goal.returns-clause-marks
unfolding marks_of_events
returns-clause-marks g c = c.in_ok-marks_of.ensures.marks
