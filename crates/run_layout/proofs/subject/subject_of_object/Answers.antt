use Rattle.run_layout.proofs.Vocabulary.{Some, events_shown, length, range_fault, rules, spoken, ◌≡◌}
use Rattle.run_layout.proofs.Scripts.{default_own_run, own_subject, own_few, own_remarks, own_fault}
use Rattle.uni_script.specs.declared.fault.BenchFault.TheVariants.{Memory}
use Rattle.run_layout.proofs.subject.subject_of_object.Goals as goal

pub returns-clause-subject : goal.returns-clause-subject
returns-clause-subject g c =
    own_subject (spoken g.O.SeqObject.sequential g.O.Spoken.language c.args.object) g.O.Spoken.state_text c.args.name.now c.args.range _ c.in_ok-run.run' (default_own_run (spoken g.O.SeqObject.sequential g.O.Spoken.language c.args.object) c.args.name.now _ _ c.in_ok-run.run' c.default.ensures c.in_ok-run.ensures.run) _ c.in_ok-marks.ensures.fits c.in_ok-marks.ensures.marks

pub returns-clause-few : goal.returns-clause-few
returns-clause-few g c =
    own_few (spoken g.O.SeqObject.sequential g.O.Spoken.language c.args.object) g.O.Spoken.state_text c.args.name.now c.args.range _ c.in_ok-run.run' (default_own_run (spoken g.O.SeqObject.sequential g.O.Spoken.language c.args.object) c.args.name.now _ _ c.in_ok-run.run' c.default.ensures c.in_ok-run.ensures.run) _ c.in_ok-marks.ensures.fits c.in_ok-marks.ensures.marks

pub returns-clause-remarks : goal.returns-clause-remarks
returns-clause-remarks g c =
    own_remarks (spoken g.O.SeqObject.sequential g.O.Spoken.language c.args.object) g.O.Spoken.state_text c.args.name.now c.args.range _ c.in_ok-run.run' (default_own_run (spoken g.O.SeqObject.sequential g.O.Spoken.language c.args.object) c.args.name.now _ _ c.in_ok-run.run' c.default.ensures c.in_ok-run.ensures.run)

pub returns-in_err-marks-clause-range : goal.returns-in_err-marks-clause-range
returns-in_err-marks-clause-range g c = λ e is.
    let fault : range_fault c.args.range (length (events_shown c.in_ok-run.run'.record.events)) ≡ Some e = search rules in
    own_fault (spoken g.O.SeqObject.sequential g.O.Spoken.language c.args.object) g.O.Spoken.state_text c.args.name.now c.args.range _ c.in_ok-run.run' (default_own_run (spoken g.O.SeqObject.sequential g.O.Spoken.language c.args.object) c.args.name.now _ _ c.in_ok-run.run' c.default.ensures c.in_ok-run.ensures.run) e fault

pub returns-in_err-marks-clause-fault : goal.returns-in_err-marks-clause-fault
returns-in_err-marks-clause-fault g c = λ e is script. let same : e ≡ Memory = search rules in absurd (rw same at script)
