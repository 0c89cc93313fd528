use Rattle.unibench_run.proofs.Vocabulary.{HasKind, IsRunOf, Some, Tells, ap, faults_of_words, inl, inr, map, rules, subcommand_of, subst, sym, unibench, ◌∙◌}
use Rattle.clap.specs.declared.error.kind.ErrorKind.TheVariants.{DisplayHelp, DisplayVersion}
use Rattle.command_line.proofs.ErrorKinds.{memory_of, not_of_kind}
use Rattle.unibench_run.proofs.RandomPlans.{in_range-asked, same_some}
use Rattle.unibench_run.proofs.RunCases.{run_of_memory, told_by_memory}
use Rattle.unibench_run.proofs.program.run.Goals as goal

pub run_request-requires-clause-request : goal.run_request-requires-clause-request
run_request-requires-clause-request g c = λ lifetimes outlive.
    in_range-asked (subcommand_of unibench (map g.S.AsStr.text c.args.words.now)) c.in-Ok-Some.request (sym c.in-Ok-Some.ensures.asked.1 ∙ c.in-Ok-Some.field-0-is)

pub returns-in-Ok-Some-clause-statuses : goal.returns-in-Ok-Some-clause-statuses
returns-in-Ok-Some-clause-statuses g c =
    let its = c.run_request.ensures in
    let asked = sym c.in-Ok-Some.ensures.asked.1 ∙ c.in-Ok-Some.field-0-is in record {
      most = its.statuses.0;
      not_1 = its.statuses.1;
      closing = λ five. let plan = its.closing five in (plan.0, (c.in-Ok-Some.ensures.asked.0, asked ∙ ap Some plan.1), plan.2);
    }

pub returns-in-Ok-Some-clause-asked : goal.returns-in-Ok-Some-clause-asked
returns-in-Ok-Some-clause-asked g c = λ r asks.
    same_some (λ q. IsRunOf q (g.I.TextIn.remaining c.args.input.now) (g.I.TextIn.remaining c.run_request.new.input) (g.O.TextOut.contents c.args.output.now)
    (g.O.TextOut.contents c.run_request.new.output) (g.O.TextOut.has_failed c.run_request.new.output) c.run_request.result)
    c.in-Ok-Some.request r (sym c.in-Ok-Some.field-0-is ∙ c.in-Ok-Some.ensures.asked.1 ∙ asks.1) c.run_request.ensures.run

pub returns-in-Ok-Some-clause-told : goal.returns-in-Ok-Some-clause-told
returns-in-Ok-Some-clause-told g c = λ r asks some.
    same_some (λ q. Tells q (g.F.TextOut.contents c.args.faults.now) (g.F.TextOut.contents c.run_request.new.faults) (g.F.TextOut.has_failed c.run_request.new.faults) c.run_request.result)
    c.in-Ok-Some.request r (sym c.in-Ok-Some.field-0-is ∙ c.in-Ok-Some.ensures.asked.1 ∙ asks.1) (c.run_request.ensures.told some)

pub returns-in-Ok-Some-clause-unread : goal.returns-in-Ok-Some-clause-unread
returns-in-Ok-Some-clause-unread g c = λ none.
    let good = c.in-Ok-Some.ensures.asked.0 in
    let asked = sym c.in-Ok-Some.ensures.asked.1 ∙ c.in-Ok-Some.field-0-is in
    c.run_request.ensures.unread (λ options. ((λ is. none (options, inl (good, asked ∙ ap Some is))), (λ is. none (options, inr (good, asked ∙ ap Some is)))))

pub returns-in-Ok-Some-clause-refused : goal.returns-in-Ok-Some-clause-refused
returns-in-Ok-Some-clause-refused g c = λ none.
    absurd (none.0 c.in-Ok-Some.request (c.in-Ok-Some.ensures.asked.0, sym c.in-Ok-Some.ensures.asked.1 ∙ c.in-Ok-Some.field-0-is))

pub returns-in-Err-clause-asked : goal.returns-in-Err-clause-asked
returns-in-Err-clause-asked g c = λ r asks.
    let has : HasKind (faults_of_words (map g.S.AsStr.text c.args.words.now)) c.in-Err.error = search rules in
    let four = c.answer_words.ensures.memory.0 (memory_of _ c.in-Err.error has asks.0) in
    subst (λ end. IsRunOf r (g.I.TextIn.remaining c.args.input.now) (g.I.TextIn.remaining c.args.input.now) (g.O.TextOut.contents c.args.output.now) (g.O.TextOut.contents end) (g.O.TextOut.has_failed end) c.answer_words.result)
    (sym (c.answer_words.ensures.kept four)) (run_of_memory r _ _ _ _ c.requires.output four)

pub returns-in-Err-clause-told : goal.returns-in-Err-clause-told
returns-in-Err-clause-told g c = λ r asks some.
    let has : HasKind (faults_of_words (map g.S.AsStr.text c.args.words.now)) c.in-Err.error = search rules in
    let four = c.answer_words.ensures.memory.0 (memory_of _ c.in-Err.error has asks.0) in
    told_by_memory r _ _ _ _ four (c.answer_words.ensures.told four)

pub returns-in-Err-clause-refused : goal.returns-in-Err-clause-refused
returns-in-Err-clause-refused g c = λ none.
    let has : HasKind (faults_of_words (map g.S.AsStr.text c.args.words.now)) c.in-Err.error = search rules in
    c.answer_words.ensures.refused
    (not_of_kind _ c.in-Err.error DisplayHelp has (λ e. cc) (λ among. none.1 (inl among)))
    (not_of_kind _ c.in-Err.error DisplayVersion has (λ e. cc) (λ among. none.1 (inr among)))
