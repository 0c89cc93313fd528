use Rattle.run_layout.proofs.Vocabulary.{Some, events_of_record, range_fault, rules, ◌≡◌}
use Rattle.run_layout.proofs.Scripts.{default_run, subject_run, few_run, fault_run}
use Rattle.run_layout.proofs.subject.subject_of.Goals as goal

pub returns-clause-subject : goal.returns-clause-subject
returns-clause-subject g c =
    subject_run c.args.range _ c.in_ok-run.run' (default_run _ _ c.in_ok-run.run' c.default.ensures c.in_ok-run.ensures.run) _ c.in_ok-marks.ensures.fits c.in_ok-marks.ensures.marks

pub returns-clause-few : goal.returns-clause-few
returns-clause-few g c = few_run c.args.range _ _ c.in_ok-marks.ensures.marks c.in_ok-marks.ensures.fits

pub returns-in_err-marks-clause-range : goal.returns-in_err-marks-clause-range
returns-in_err-marks-clause-range g c = λ e is.
    let fault : range_fault c.args.range (events_of_record c.in_ok-run.run'.record) ≡ Some e = search rules in
    fault_run c.args.range _ c.in_ok-run.run' (default_run _ _ c.in_ok-run.run' c.default.ensures c.in_ok-run.ensures.run) e fault
