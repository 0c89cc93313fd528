use Rattle.run_layout.proofs.Everything.{chosen_all, remarks_all}
use Rattle.run_layout.proofs.choice.Range.all.Goals as goal

pub returns-clause-marks : goal.returns-clause-marks
returns-clause-marks c marks = chosen_all marks

pub returns-clause-remarks : goal.returns-clause-remarks
returns-clause-remarks c remarks = remarks_all remarks
