use Rattle.std.proofs.Common.{◌≡◌, rules}
use Rattle.uni_script.specs.Statuses.{status_of}
use Rattle.script_advice.proofs.More.{told_more, told_with}
use Rattle.script_advice.proofs.explain.report_explained.Goals as goal

pub returns-in-Ok-clause-told : goal.returns-in-Ok-clause-told
returns-in-Ok-clause-told g c =
    let two : status_of c.args.fault ≡ 2 = search rules in
    told_with _ _ _ c.args.fault c.in-Ok.ensures.0 _ _ two c.as_slice.ensures.value c.in-Ok.ensures.1 c.tell.ensures.prefix c.tell.ensures.whole

pub returns-in_default-clause-told : goal.returns-in_default-clause-told
returns-in_default-clause-told g c = told_more _ _ _ _ c.report_fault.ensures.told

pub returns-in_default-line_of-clause-told : goal.returns-in_default-line_of-clause-told
returns-in_default-line_of-clause-told g c = told_more _ _ _ _ c.report_fault-in_default-line_of.ensures.told

pub returns-in-Err-clause-told : goal.returns-in-Err-clause-told
returns-in-Err-clause-told g c = told_more _ _ _ _ c.report_fault-in-Err.ensures.told
