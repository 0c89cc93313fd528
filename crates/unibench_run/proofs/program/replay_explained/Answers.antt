use Rattle.unibench_run.proofs.Vocabulary.{IsReplay, Some, rules, scripts, subst}
use Rattle.unibench_run.proofs.RunCases.{is_of_script}
use Rattle.unibench_run.proofs.program.replay_explained.Goals as goal

pub returns-in-Ok-clause-run : goal.returns-in-Ok-clause-run
returns-in-Ok-clause-run g c = record { replayed = λ e. search rules; bad = λ e. cc; read = λ e. cc; part = search rules }

pub returns-in-Err-clause-run : goal.returns-in-Err-clause-run
returns-in-Err-clause-run g c = record {
  replayed = λ e. search rules;
  bad = λ two.
      let of_script = is_of_script c.in-Err.fault c.report_explained.result c.report_explained.ensures.status two in (
        c.in-Err.fault,
        of_script,
        subst (λ left. IsReplay (scripts c.args.options.now) left (g.O.TextOut.contents c.args.output.now) (g.O.TextOut.contents c.bench.new.writer) (Some c.in-Err.fault)) c.keep.ensures.remaining (c.in-Err.ensures.fault of_script),
      );
  read = λ three quiet. search rules;
  part = search rules;
}
