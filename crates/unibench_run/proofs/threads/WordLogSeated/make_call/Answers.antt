use Rattle.unibench_run.proofs.Vocabulary.{[], ap, length-append, sym, ◌%◌, ◌++◌, ◌+◌, ◌∙◌, ◌∷◌}
use Rattle.unibench_run.proofs.threads.WordLogSeated.make_call.Goals as goal

pub returns-clause-made : goal.returns-clause-made
returns-clause-made g c = λ p told made.
    let its = c.in-Ok.ensures in record {
      is_seat = its.kept.0;
      process = its.kept.1 ∙ made.process;
      own = ap (λ l. l ++ (c.args.word % 1000, c.in-Ok.answer.reply) ∷ []) made.own ∙ sym its.own;
      made = its.made ∙ ap (λ n. n + 1) made.made ∙ sym (length-append told ((c.args.word % 1000, c.in-Ok.answer.reply) ∷ []));
    }
