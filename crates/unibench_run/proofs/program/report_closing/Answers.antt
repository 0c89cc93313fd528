use Rattle.unibench_run.proofs.Vocabulary.{EndsThreads, Memory, Some, arith, line_of_fault, refl, rules, sym, ◌≡◌}
use Rattle.unibench_run.proofs.RunCases.{TellsLine-bytes}
use Rattle.unibench_run.proofs.program.report_closing.Goals as goal

pub returns-in-Ok-clause-told : goal.returns-in-Ok-clause-told
returns-in-Ok-clause-told g c =
    let line : c.as_slice.result.now ≡ line_of_fault c.args.fault = search rules in
    TellsLine-bytes (EndsThreads (Some c.args.fault)) line_of_fault c.args.fault _ _ _ 5 c.as_slice.result.now (sym c.requires, λ two. refl) line c.tell.ensures.prefix c.tell.ensures.whole

pub returns-clause-told : goal.returns-clause-told
returns-clause-told g c = record { fault = Memory; status_is = (refl, λ two. absurd (omega arith)); prefix = c.tell-in-Err.ensures.prefix; whole = c.tell-in-Err.ensures.whole }
